-- Joined fields, one field more.
use Rattle.std.proofs.Common.{append_assoc, ◌≡◌, refl, ap, sym, ◌∙◌, arith, ℕ, zero, suc, ◌+◌, ◌<◌, List, [], ◌∷◌, ◌++◌, length, get_or, take, Vec, Global}
use Rattle.std.specs.Prelude.{map}
use Rattle.std.specs.List.{join_with_byte}
use Rattle.kb_text.specs.Lines.{parted}

join-push : (c : ℕ) (x : List ℕ) (xs : List (List ℕ)) (y : List ℕ) → join_with_byte c (x ∷ (xs ++ y ∷ [])) ≡ join_with_byte c (x ∷ xs) ++ c ∷ y
join-push c x [] y = refl
join-push c x (z ∷ zs) y = ap (λ (bytes : List ℕ). x ++ c ∷ bytes) (join-push c z zs y) ∙ sym (append_assoc x (c ∷ join_with_byte c (z ∷ zs)) (c ∷ y))

map-more : (fs : List (Vec ℕ Global)) (i : ℕ) (d : Vec ℕ Global) → i < length fs → map (λ (f : Vec ℕ Global). f.items) (take (i + 1) fs) ≡ map (λ (f : Vec ℕ Global). f.items) (take i fs) ++ (get_or fs i d).items ∷ []
map-more [] i d h = absurd (omega arith)
map-more (f ∷ fs) zero d h = refl
map-more (f ∷ fs) (suc i) d h =
    let e : suc i + 1 ≡ suc (i + 1) = omega arith in
    rw e (ap (f.items ∷◌) (map-more fs i d (omega arith)))

-- one field more
pub join_more : (c : ℕ) (fs : List (Vec ℕ Global)) (i : ℕ) (d : Vec ℕ Global) → i < length fs
    → join_with_byte c (map (λ (f : Vec ℕ Global). f.items) (take (i + 1) fs)) ≡ join_with_byte c (map (λ (f : Vec ℕ Global). f.items) (take i fs)) ++ parted c i (get_or fs i d).items
join_more c [] i d h = absurd (omega arith)
join_more c (f ∷ fs) zero d h = refl
join_more c (f ∷ fs) (suc i) d h =
    let e : suc i + 1 ≡ suc (i + 1) = omega arith in
    rw e (ap (λ (us : List (List ℕ)). join_with_byte c (f.items ∷ us)) (map-more fs i d (omega arith)) ∙ join-push c f.items (map (λ (f : Vec ℕ Global). f.items) (take i fs)) (get_or fs i d).items)

-- Lists that are gone through from the front.
use Rattle.std.proofs.Common.{ℕ, zero, suc, map, ◌≡◌, ◌+◌, ◌<◌, ◌≤◌, List, [], ◌∷◌, length, drop, get_or, refl, ap, sym, subst, ◌∙◌, arith, drop-cons}
use Rattle.std.proofs.Math.ListN.{drop_of_length-le}

-- the rest of a list begins with the member at its number
pub drop_at : {A : Type 0} → (xs : List A) (i : ℕ) (x : A) → i < length xs → x ≡ get_or xs i x → drop i xs ≡ x ∷ drop (i + 1) xs
drop_at {A} xs i x h e =
    let next : suc i ≡ i + 1 = omega arith in
    subst {A = ℕ} (λ n. drop i xs ≡ x ∷ drop n xs) next (drop-cons xs i x h ∙ ap (λ z. z ∷ drop (suc i) xs) (sym e))

-- behind the last member nothing is left
pub drop_all : {A : Type 0} → (xs : List A) (i : ℕ) → length xs ≤ i → drop i xs ≡ []
drop_all {A} xs i h = drop_of_length-le xs h

-- a member of a mapped list
pub read_map : {A B : Type 0} → (f : A → B) (xs : List A) (i : ℕ) (d : A) → get_or (map f xs) i (f d) ≡ f (get_or xs i d)
read_map f [] i d = refl
read_map f (x ∷ xs) zero d = refl
read_map f (x ∷ xs) (suc i) d = read_map f xs i d

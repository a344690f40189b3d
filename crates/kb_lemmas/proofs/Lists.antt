-- Lists cut, filtered, mapped and put together.
use Rattle.std.proofs.Common.{ℕ, zero, suc, ◌≡◌, ◌<◌, ◌≤◌, ◌+◌, ⊎_elim, refl, sym, ap, ap₂, ◌∙◌, arith, Bool, true, false, cond, List, [], ◌∷◌, ◌++◌, length, map, filter, take, get_or, Some, Contains, slice_get}
use Rattle.std.specs.List.{AllZip, list_all}
use Rattle.std.specs.Option.{option_map}
use mathlib.Core.Bool.{false≢true}
use Rattle.std.proofs.lemmas.Bool.{and_from}
use Rattle.std.proofs.lemmas.List.Folds.{list_all-append}
use Rattle.std.proofs.lemmas.Option.{slice_get-map, none-some, same_Some}
use Rattle.kb_lemmas.proofs.Membership.{contains_cases, contains_behind, contains_first}

pub other_single : (a b : ℕ) → ¬ (a ≡ b) → ¬ (a ∷ [] ≡ b ∷ [])
other_single a b d e = d (cc)

pub no_end : {A : Type 0} (xs : List A) (x : A) {Q : Type 0} → xs ++ x ∷ [] ≡ [] → Q
no_end [] x e = absurd (cc)
no_end (y ∷ xs) x e = absurd (cc)

pub same_end : {A : Type 0} (xs ys : List A) (x y : A) → xs ++ x ∷ [] ≡ ys ++ y ∷ [] → (xs ≡ ys) × (x ≡ y)
same_end [] [] x y e = (refl, cc)
same_end [] (z ∷ ys) x y e = no_end ys y (sym (let f : [] ≡ ys ++ y ∷ [] = cc in f))
same_end (z ∷ xs) [] x y e = no_end xs x (let f : xs ++ x ∷ [] ≡ [] = cc in f)
same_end {A} (z ∷ xs) (u ∷ ys) x y e =
    let first : z ≡ u = cc in
    let rest : xs ++ x ∷ [] ≡ ys ++ y ∷ [] = cc in
    let r = same_end xs ys x y rest in
    (ap₂ (λ (v : A) (vs : List A). v ∷ vs) first r.0, r.1)

pub take_next : {X : Type 0} (xs : List X) (k : ℕ) (x : X) → k < length xs → x ≡ get_or xs k x → take (k + 1) xs ≡ take k xs ++ x ∷ []
take_next [] k x h e = absurd (omega arith)
take_next (y ∷ ys) zero x h e = ap (λ z. z ∷ []) (sym e)
take_next (y ∷ ys) (suc k) x h e = let n : suc k + 1 ≡ suc (k + 1) = omega arith in ap (λ z. take z (y ∷ ys)) n ∙ ap (y ∷◌) (take_next ys k x (omega arith) e)

pub last_at : {X : Type 0} (xs : List X) (x : X) → slice_get (xs ++ x ∷ []) (length xs) ≡ Some x
last_at [] x = refl
last_at (y ∷ xs) x = last_at xs x

pub get_map : {A B : Type 0} (f : A → B) (xs : List A) (i : ℕ) (x : A) → slice_get xs i ≡ Some x → slice_get (map f xs) i ≡ Some (f x)
get_map f xs i x e = slice_get-map f xs i ∙ ap (option_map f) e

pub get_map_back : {A B : Type 0} (f : A → B) (xs : List A) (i : ℕ) (y : B) → slice_get (map f xs) i ≡ Some y → (x : A) × (slice_get xs i ≡ Some x) × (f x ≡ y)
get_map_back f [] i y e = absurd (none-some y e)
get_map_back f (x ∷ xs) zero y e = (x, refl, same_Some (f x) y e)
get_map_back f (x ∷ xs) (suc i) y e = get_map_back f xs i y e

pub zip_push : {X Y : Type 0} (R : X → Y → Type 0) (xs : List X) (ys : List Y) (x : X) (y : Y) → AllZip R xs ys → R x y → AllZip R (xs ++ x ∷ []) (ys ++ y ∷ [])
zip_push R [] [] x y h r = (r, tt)
zip_push R [] (b ∷ ys) x y h r = absurd h
zip_push R (a ∷ xs) [] x y h r = absurd h
zip_push R (a ∷ xs) (b ∷ ys) x y h r = (h.0, zip_push R xs ys x y h.1 r)

pub all_join : {X : Type 0} (p : X → Bool) (xs ys : List X) → list_all p xs ≡ true → list_all p ys ≡ true → list_all p (xs ++ ys) ≡ true
all_join p xs ys h k = list_all-append p xs ys ∙ and_from _ _ h k

pub filter_none_of : {A : Type 0} (q : A → Bool) (xs : List A) → ((x : A) → Contains xs x → q x ≡ false) → filter q xs ≡ []
filter_none_of q [] never = refl
filter_none_of q (x ∷ xs) never = ap (λ b. cond b (x ∷ filter q xs) (filter q xs)) (never x (contains_first x xs)) ∙ filter_none_of q xs (λ y i. never y (contains_behind x xs y i))

pub filter_less : {X : Type 0} (p : X → Bool) (xs : List X) → length (filter p xs) ≤ length xs
filter_less p [] = omega arith
filter_less {X} p (x ∷ xs) = go (p x) (filter_less p xs)
  where
    go : (t : Bool) → length (filter p xs) ≤ length xs → length (cond t (x ∷ filter p xs) (filter p xs)) ≤ suc (length xs)
    go true h = omega (arith, h)
    go false h = omega (arith, h)

pub filter_lost : (p : ℕ → Bool) (xs : List ℕ) (y : ℕ) → Contains xs y → p y ≡ false → length (filter p xs) < length xs
filter_lost p [] y c e = absurd (omega arith)
filter_lost p (x ∷ xs) y c e = go (p x) refl (filter_less p xs) (filter_lost p xs y)
  where
    go : (b : Bool) → p x ≡ b → length (filter p xs) ≤ length xs → (Contains xs y → p y ≡ false → length (filter p xs) < length xs) → length (cond b (x ∷ filter p xs) (filter p xs)) < length (x ∷ xs)
    go false q h rest = omega arith
    go true q h rest = ⊎_elim (λ s. absurd (false≢true (sym (ap p s ∙ e) ∙ q))) (λ d. let r = rest d e in omega arith) (contains_cases x xs y c)

pub get_take : {X : Type 0} (n : ℕ) (xs : List X) (i : ℕ) (x : X) → slice_get (take n xs) i ≡ Some x → (i < n) × (slice_get xs i ≡ Some x)
get_take zero xs i x e = absurd (none-some x e)
get_take (suc n) [] i x e = absurd (none-some x e)
get_take (suc n) (y ∷ ys) zero x e = (omega arith, e)
get_take (suc n) (y ∷ ys) (suc i) x e = let h = get_take n ys i x e in (omega (arith, h.0), h.1)

pub take_front : (xs ys : List ℕ) → take (length xs) (xs ++ ys) ≡ xs
take_front [] ys = refl
take_front (x ∷ xs) ys = ap (x ∷◌) (take_front xs ys)

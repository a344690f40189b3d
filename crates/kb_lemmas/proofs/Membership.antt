-- The members of a list, and what holds of each of them.
use Rattle.std.proofs.Common.{ℕ, zero, suc, ◌≡◌, ◌⊎◌, inl, inr, ⊎_elim, refl, ap, subst, arith, List, [], ◌∷◌, ◌++◌, map, flat_map, Some, All, AllPairs, Contains, slice_get, suc-le-suc, sym}
use Rattle.std.proofs.lemmas.Bool.{cases_eq}
use Rattle.std.proofs.lemmas.List.Elements.{Contains-append_cases, Contains-append_left, Contains-append_right}

pub contains_cases : {X : Type 0} (x : X) (xs : List X) (y : X) → Contains (x ∷ xs) y → (x ≡ y) ⊎ Contains xs y
contains_cases x xs y (zero, h, e) = inl e
contains_cases x xs y (suc k, h, e) = inr (k, omega arith, e)

pub contains_behind : {X : Type 0} (x : X) (xs : List X) (y : X) → Contains xs y → Contains (x ∷ xs) y
contains_behind x xs y (k, h, e) = (suc k, omega arith, e)

pub contains_first : {X : Type 0} (x : X) (xs : List X) → Contains (x ∷ xs) x
contains_first x xs = (0, omega arith, refl)

pub none_in : {X : Type 0} {x : X} {P : Type 0} → Contains [] x → P
none_in c = absurd (omega (arith, c.1))

pub only_member : {X : Type 0} (p q : X) → Contains (p ∷ []) q → p ≡ q
only_member p q (zero, l, e) = e
only_member p q (suc k, l, e) = absurd (omega (arith, l))

pub here_or_elsewhere : {X : Type 0} (before after : List X) (x y : X) → Contains (before ++ x ∷ after) y → (x ≡ y) ⊎ Contains (before ++ after) y
here_or_elsewhere before after x y c = ⊎_elim (λ d. inr (Contains-append_left before after y d)) (λ d. ⊎_elim (λ e. inl e) (λ k. inr (Contains-append_right before after y k)) (contains_cases x after y d)) (Contains-append_cases before (x ∷ after) y c)

pub listed_or_not : (xs : List ℕ) (y : ℕ) → Contains xs y ⊎ (Contains xs y → ⊥)
listed_or_not [] y = inr (λ c. omega arith)
listed_or_not (x ∷ xs) y = ⊎_elim (λ e. inl (subst (Contains (x ∷ xs)) e (contains_first x xs))) (λ n. ⊎_elim (λ c. inl (contains_behind x xs y c)) (λ m. inr (λ c. ⊎_elim n m (contains_cases x xs y c))) (listed_or_not xs y)) (cases_eq x y)

pub slice_contains : {X : Type 0} (xs : List X) (i : ℕ) (x : X) → slice_get xs i ≡ Some x → Contains xs x
slice_contains [] i x e = absurd (cc)
slice_contains (y ∷ ys) zero x e = (0, omega arith, cc)
slice_contains (y ∷ ys) (suc i) x e = contains_behind y ys x (slice_contains ys i x e)

pub contains_map : {X Y : Type 0} (f : X → Y) (xs : List X) (x : X) → Contains xs x → Contains (map f xs) (f x)
contains_map f [] x c = absurd (omega arith)
contains_map f (y ∷ xs) x c = ⊎_elim (λ e. (0, omega arith, ap f e)) (λ d. contains_behind (f y) (map f xs) (f x) (contains_map f xs x d)) (contains_cases y xs x c)

pub contains_mapped : {X Y : Type 0} (f : X → Y) (xs : List X) (y : Y) → Contains (map f xs) y → (x : X) × Contains xs x × (f x ≡ y)
contains_mapped f [] y c = absurd (omega (arith, c.1))
contains_mapped f (x ∷ xs) y c = elim (contains_cases (f x) (map f xs) y c) [
  | inl e ↦ (x, contains_first x xs, e)
  | inr d ↦ let h = contains_mapped f xs y d in (h.0, contains_behind x xs h.0 h.1, h.2)
]

pub contains_flat_map : {X Y : Type 0} (f : X → List Y) (xs : List X) (x : X) (y : Y) → Contains xs x → Contains (f x) y → Contains (flat_map f xs) y
contains_flat_map f [] x y c d = absurd (omega arith)
contains_flat_map f (z ∷ xs) x y c d = ⊎_elim (λ e. Contains-append_left (f z) (flat_map f xs) y (subst (λ w. Contains (f w) y) (sym e) d)) (λ b. Contains-append_right (f z) (flat_map f xs) y (contains_flat_map f xs x y b d)) (contains_cases z xs x c)

pub contains_flat_map_back : {X Y : Type 0} (f : X → List Y) (xs : List X) (y : Y) → Contains (flat_map f xs) y → (x : X) × Contains xs x × Contains (f x) y
contains_flat_map_back f [] y c = absurd (omega arith)
contains_flat_map_back f (x ∷ xs) y c = ⊎_elim (λ d. (x, contains_first x xs, d)) (λ d. let r = contains_flat_map_back f xs y d in (r.0, contains_behind x xs r.0 r.1, r.2)) (Contains-append_cases (f x) (flat_map f xs) y c)

pub split_at : {X : Type 0} (xs : List X) (x : X) → Contains xs x → (before : List X) × (after : List X) × (xs ≡ before ++ x ∷ after)
split_at [] x c = absurd (omega arith)
split_at {X} (y ∷ xs) x c = ⊎_elim (λ e. ([], xs, ap (λ (z : X). z ∷ xs) e)) (λ d. let r = split_at xs x d in (y ∷ r.0, r.1, ap (y ∷◌) r.2)) (contains_cases y xs x c)

pub all_none : {X : Type 0} (P : X → Type 0) → All P []
all_none P k d h = absurd (omega arith)

pub all_one : {X : Type 0} (P : X → Type 0) (x : X) → P x → All P (x ∷ [])
all_one P x h zero d l = h
all_one P x h (suc i) d l = absurd (omega (arith, l))

pub all_more : {X : Type 0} (P : X → Type 0) (x : X) (xs : List X) → P x → All P xs → All P (x ∷ xs)
all_more P x xs p h zero d l = p
all_more P x xs p h (suc k) d l = h k d (omega arith)

pub all_rest : {X : Type 0} (P : X → Type 0) (x : X) (xs : List X) → All P (x ∷ xs) → All P xs
all_rest P x xs h k d p = h (suc k) d (suc-le-suc p)

pub all_front : {X : Type 0} (P : X → Type 0) (xs ys : List X) → All P (xs ++ ys) → All P xs
all_front P [] ys h k d i = absurd (omega arith)
all_front P (x ∷ xs) ys h zero d i = h 0 x (omega arith)
all_front P (x ∷ xs) ys h (suc k) d i = all_front P xs ys (λ j e q. h (suc j) e (omega arith)) k d (omega arith)

pub all_behind : {X : Type 0} (P : X → Type 0) (xs ys : List X) → All P (xs ++ ys) → All P ys
all_behind P [] ys h = h
all_behind P (x ∷ xs) ys h = all_behind P xs ys (λ j e q. h (suc j) e (omega arith))

pub no_pairs : {X : Type 0} (R : X → X → Type 0) → AllPairs R []
no_pairs R i j d h k = absurd (omega arith)

-- Sorted lists, and the lexicographic order of choices.
use Rattle.std.proofs.Common.{ℕ, zero, suc, ◌+◌, ◌≤◌, ◌<◌, ◌≡◌, ◌⊎◌, inl, inr, ⊎_elim, refl, subst, arith, List, [], ◌∷◌, ◌++◌, length, map, Contains, get_or, flat_map}
use Rattle.std.specs.List.{AllZip, range_with_len}
use Rattle.std.proofs.lemmas.Bool.{cases_lt}
use Rattle.std.proofs.lemmas.List.Elements.{Contains-append_cases, Contains-append_right}
use Rattle.kb_lemmas.proofs.Membership.{contains_map, contains_flat_map, contains_flat_map_back, contains_cases, contains_behind, contains_first}
use Rattle.kb_linear.specs.Interpretations.{choices}

pub contains_at : {X : Type 0} (xs : List X) (k : ℕ) (d : X) → k < length xs → Contains xs (get_or xs k d)
contains_at [] k d h = absurd (omega arith)
contains_at (x ∷ xs) zero d h = contains_first x xs
contains_at (x ∷ xs) (suc k) d h = contains_behind x xs (get_or xs k d) (contains_at xs k d (omega arith))

pub contains_map_back : {X Y : Type 0} (f : X → Y) (xs : List X) (y : Y) → Contains (map f xs) y → (x : X) × Contains xs x × f x ≡ y
contains_map_back f [] y c = absurd (omega arith)
contains_map_back f (x ∷ xs) y c = ⊎_elim (λ e. (x, contains_first x xs, e)) (λ d. let r = contains_map_back f xs y d in (r.0, contains_behind x xs r.0 r.1, r.2)) (contains_cases (f x) (map f xs) y c)

pub contains_range : (a n y : ℕ) → Contains (range_with_len a n) y → (a ≤ y) × (y < a + n)
contains_range a zero y c = absurd (omega arith)
contains_range a (suc n) y c = ⊎_elim (λ e. (omega arith, omega arith)) (λ d. let r = contains_range (a + 1) n y d in (omega (arith, r.0), omega (arith, r.1))) (contains_cases a (range_with_len (a + 1) n) y c)

pub in_range : (a n y : ℕ) → a ≤ y → y < a + n → Contains (range_with_len a n) y
in_range a zero y h l = absurd (omega arith)
in_range a (suc n) y h l = ⊎_elim (λ e. (0, omega arith, e)) (λ d. contains_behind a (range_with_len (a + 1) n) y (in_range (a + 1) n y (omega arith) (omega arith))) (meet a y h)
  where
    meet : (a y : ℕ) → a ≤ y → (a ≡ y) ⊎ (a < y)
    meet a y h = ⊎_elim (λ l. inr l) (λ l. inl (omega arith)) (cases_lt a y)

-- each member is related to each one behind it
abbrev pub IsSorted : {X : Type 0} → (X → X → Type 0) → List X → Type 0
IsSorted R [] = Unit {0}
IsSorted R (x ∷ xs) = ((y : _) → Contains xs y → R x y) × IsSorted R xs

pub sorted_append : {X : Type 0} (R : X → X → Type 0) (xs ys : List X) → IsSorted R xs → IsSorted R ys → ((x y : X) → Contains xs x → Contains ys y → R x y) → IsSorted R (xs ++ ys)
sorted_append R [] ys s t h = t
sorted_append R (x ∷ xs) ys s t h =
    (λ y c. ⊎_elim (λ d. s.0 y d) (λ d. h x y (contains_first x xs) d) (Contains-append_cases xs ys y c), sorted_append R xs ys s.1 t (λ z y c d. h z y (contains_behind x xs z c) d))

pub sorted_map : {X Y : Type 0} (R : X → X → Type 0) (Q : Y → Y → Type 0) (f : X → Y) (xs : List X) → IsSorted R xs → ((x y : X) → R x y → Q (f x) (f y)) → IsSorted Q (map f xs)
sorted_map R Q f [] s h = tt
sorted_map {X} {Y} R Q f (x ∷ xs) s h = (λ y c. let r = contains_map_back f xs y c in subst (Q (f x)) r.2 (h x r.0 (s.0 r.0 r.1)), sorted_map R Q f xs s.1 h)

-- blocks that are sorted, one behind the other
pub sorted_flat_map : {X Y : Type 0} (R : X → X → Type 0) (Q : Y → Y → Type 0) (f : X → List Y) (xs : List X) → IsSorted R xs → ((x : X) → Contains xs x → IsSorted Q (f x)) → ((x z : X) (y w : Y) → R x z → Contains (f x) y → Contains (f z) w → Q y w) → IsSorted Q (flat_map f xs)
sorted_flat_map R Q f [] s b h = tt
sorted_flat_map R Q f (x ∷ xs) s b h =
    sorted_append Q (f x) (flat_map f xs) (b x (contains_first x xs)) (sorted_flat_map R Q f xs s.1 (λ z c. b z (contains_behind x xs z c)) h)
    (λ y w c d. let r = contains_flat_map_back f xs w d in h x r.0 y w (s.0 r.0 r.1) c r.2)

pub sorted_range : (a n : ℕ) → IsSorted (λ x y. x < y) (range_with_len a n)
sorted_range a zero = tt
sorted_range a (suc n) = (λ y c. let r = contains_range (a + 1) n y c in omega (arith, r.0), sorted_range (a + 1) n)

-- what stands before a member and what stands behind it
pub sorted_before : {X : Type 0} (R : X → X → Type 0) (before after : List X) (x y : X) → IsSorted R (before ++ x ∷ after) → Contains before y → R y x
sorted_before R [] after x y s c = absurd (omega arith)
sorted_before R (z ∷ before) after x y s c = ⊎_elim (λ e. subst (λ w. R w x) e (s.0 x (Contains-append_right before (x ∷ after) x (contains_first x after)))) (λ d. sorted_before R before after x y s.1 d) (contains_cases z before y c)

pub sorted_after : {X : Type 0} (R : X → X → Type 0) (before after : List X) (x y : X) → IsSorted R (before ++ x ∷ after) → Contains after y → R x y
sorted_after R [] after x y s c = s.0 y c
sorted_after R (z ∷ before) after x y s c = sorted_after R before after x y s.1 c

-- the lexicographic order of lists by the order of their members
abbrev pub IsListLess : {X : Type 0} → (X → X → Type 0) → List X → List X → Type 0
IsListLess R (x ∷ xs) (y ∷ ys) = R x y ⊎ ((x ≡ y) × IsListLess R xs ys)
IsListLess R xs ys = ⊥

abbrev pub AreSorted : {X : Type 0} → (X → X → Type 0) → List (List X) → Type 0
AreSorted R [] = Unit {0}
AreSorted R (xs ∷ xss) = IsSorted R xs × AreSorted R xss

pub sorted_choices : {X : Type 0} (R : X → X → Type 0) (xss : List (List X)) → AreSorted R xss → IsSorted (IsListLess R) (choices xss)
sorted_choices R [] s = (λ y c. absurd (omega arith), tt)
sorted_choices {X} R (xs ∷ xss) s =
    sorted_flat_map R (IsListLess R) (λ x. map (x ∷◌) (choices xss)) xs s.0
    (λ x c. sorted_map (IsListLess R) (IsListLess R) (x ∷◌) (choices xss) (sorted_choices R xss s.1) (λ a b l. inr (refl, l)))
    (λ x z y w r c d.
    let p = contains_map_back (x ∷◌) (choices xss) y c in
    let q = contains_map_back (z ∷◌) (choices xss) w d in
    subst (λ v. IsListLess R v w) p.2 (subst (λ v. IsListLess R (x ∷ p.0) v) q.2 (inl r)))

pub choices_from : {X : Type 0} (xss : List (List X)) (ys : List X) → Contains (choices xss) ys → AllZip (λ xs y. Contains xs y) xss ys
choices_from [] ys c = ⊎_elim (λ e. subst (AllZip (λ xs y. Contains xs y) []) e tt) (λ d. absurd (omega arith)) (contains_cases [] [] ys c)
choices_from {X} (xs ∷ xss) ys c =
    let r = contains_flat_map_back (λ x. map (x ∷◌) (choices xss)) xs ys c in
    let q = contains_map_back (r.0 ∷◌) (choices xss) ys r.2 in
    subst (AllZip (λ xs y. Contains xs y) (xs ∷ xss)) q.2 (r.1, choices_from xss q.0 q.1)

pub choices_to : {X : Type 0} (xss : List (List X)) (ys : List X) → AllZip (λ xs y. Contains xs y) xss ys → Contains (choices xss) ys
choices_to [] [] h = contains_first [] []
choices_to [] (y ∷ ys) h = absurd h
choices_to (xs ∷ xss) [] h = absurd h
choices_to {X} (xs ∷ xss) (y ∷ ys) h = contains_flat_map (λ x. map (x ∷◌) (choices xss)) xs y (y ∷ ys) h.0 (contains_map (y ∷◌) (choices xss) ys (choices_to xss ys h.1))

-- Arrangements stand in ascending order, so what is earlier than one of them stands before it.
use Rattle.std.proofs.Common.{ℕ, zero, suc, ◌≡◌, ◌≤◌, ◌<◌, ◌+◌, ◌++◌, inl, inr, ⊎_elim, List, [], ◌∷◌, refl, sym, ap, ◌∙◌, subst, subst₂, arith, map, filter, Bool, true, false, ◌==◌, Contains, cond}
use Rattle.std.specs.Prelude.{not, All, None, slice_index_or}
use Rattle.std.specs.List.{range_with_len, flat_map}
use Rattle.kb_term.specs.Rule.{Rule}
use Rattle.kb_lpo.specs.Precedences.{arrangements, precedences, LpoOrients, IsLowerBound}
use Rattle.kb_lpo.specs.Search.{IsEarlier, IsFloor, outside, lowest_of, floor_behind}
use Rattle.kb_term.specs.First.{IsFirst}
use Rattle.std.proofs.lemmas.List.Elements.{All-contains, All-contains_itself, Contains-append_left, Contains-append_right, filter-append}
use Rattle.std.proofs.lemmas.List.{append_assoc}
use Rattle.std.proofs.lemmas.Grind.{flat_map-append}
use Rattle.kb_lemmas.proofs.Membership.{contains_cases, contains_behind, contains_first}
use Rattle.kb_lpo.proofs.First.{outside_all, outside_next, all_blocks, range_split, test, tried, block}

-- each member has the property
abbrev pub Each : {X : Type 0} → (X → Type 0) → List X → Type 0
Each P [] = Unit {0}
Each P (x ∷ xs) = P x × Each P xs

-- each member is related to all that follow
abbrev Ascending : {X : Type 0} → (X → X → Type 0) → List X → Type 0
Ascending R [] = Unit {0}
Ascending R (x ∷ xs) = Each (R x) xs × Ascending R xs

each_always : {X : Type 0} (P : X → Type 0) → ((x : X) → P x) → (xs : List X) → Each P xs
each_always P h [] = tt
each_always P h (x ∷ xs) = (h x, each_always P h xs)

each_weaken : {X : Type 0} (P Q : X → Type 0) → ((x : X) → P x → Q x) → (xs : List X) → Each P xs → Each Q xs
each_weaken P Q h [] e = tt
each_weaken P Q h (x ∷ xs) e = (h x e.0, each_weaken P Q h xs e.1)

each_append : {X : Type 0} (P : X → Type 0) (xs ys : List X) → Each P xs → Each P ys → Each P (xs ++ ys)
each_append P [] ys h k = k
each_append P (x ∷ xs) ys h k = (h.0, each_append P xs ys h.1 k)

each_map : {X Y : Type 0} (P : Y → Type 0) (f : X → Y) (xs : List X) → Each (λ x. P (f x)) xs → Each P (map f xs)
each_map P f [] h = tt
each_map P f (x ∷ xs) h = (h.0, each_map P f xs h.1)

each_filter : {X : Type 0} (P : X → Type 0) (p : X → Bool) (xs : List X) → Each P xs → Each P (filter p xs)
each_filter P p [] h = tt
each_filter P p (x ∷ xs) h =
    let more = each_filter P p xs h.1 in
    elim (p x) as (λ b. Each P (cond b (x ∷ filter p xs) (filter p xs))) [ true ↦ (h.0, more) | false ↦ more ]

pub each_contains : {X : Type 0} (P : X → Type 0) (xs : List X) (x : X) → Each P xs → Contains xs x → P x
each_contains P [] x h c = absurd (omega arith)
each_contains P (y ∷ ys) x h c = ⊎_elim (λ e. subst P e h.0) (λ d. each_contains P ys x h.1 d) (contains_cases y ys x c)

pub all_each : {X : Type 0} (P : X → Type 0) (xs : List X) → Each P xs → All P xs
all_each P [] h k d i = absurd (omega arith)
all_each P (x ∷ xs) h zero d i = h.0
all_each P (x ∷ xs) h (suc k) d i = all_each P xs h.1 k d (omega arith)

ascending_append : {X : Type 0} (R : X → X → Type 0) (xs ys : List X) → Ascending R xs → Ascending R ys → Each (λ x. Each (R x) ys) xs → Ascending R (xs ++ ys)
ascending_append R [] ys h k b = k
ascending_append R (x ∷ xs) ys h k b = (each_append (R x) xs ys h.0 b.0, ascending_append R xs ys h.1 k b.1)

ascending_filter : {X : Type 0} (R : X → X → Type 0) (p : X → Bool) (xs : List X) → Ascending R xs → Ascending R (filter p xs)
ascending_filter R p [] h = tt
ascending_filter R p (x ∷ xs) h =
    let more = ascending_filter R p xs h.1 in
    let here = each_filter (R x) p xs h.0 in
    elim (p x) as (λ b. Ascending R (cond b (x ∷ filter p xs) (filter p xs))) [ true ↦ (here, more) | false ↦ more ]

ascending_map : (x : ℕ) (rs : List (List ℕ)) → Ascending IsEarlier rs → Ascending IsEarlier (map (x ∷◌) rs)
ascending_map x [] h = tt
ascending_map x (r ∷ rs) h = (each_map (IsEarlier (x ∷ r)) (x ∷◌) rs (each_weaken (IsEarlier r) (λ q. IsEarlier (x ∷ r) (x ∷ q)) (λ q e. inr (refl_at x, e)) rs h.0), ascending_map x rs h.1)
  where
    refl_at : (n : ℕ) → n ≡ n
    refl_at n = omega arith

-- numbers in a row
each_range : (b a n : ℕ) → b ≤ a → Each (λ y. b ≤ y) (range_with_len a n)
each_range b a zero h = tt
each_range b a (suc n) h = (h, each_range b (a + 1) n (omega arith))

each_range_below : (b a n : ℕ) → a + n ≤ b → Each (λ y. y < b) (range_with_len a n)
each_range_below b a zero h = tt
each_range_below b a (suc n) h = (omega arith, each_range_below b (a + 1) n (omega arith))

ascending_range : (a n : ℕ) → Ascending (λ x y. x < y) (range_with_len a n)
ascending_range a zero = tt
ascending_range a (suc n) = (each_weaken (λ y. a + 1 ≤ y) (λ y. a < y) (λ y h. omega arith) (range_with_len (a + 1) n) (each_range (a + 1) (a + 1) n (omega arith)), ascending_range (a + 1) n)

-- lists that begin with the members of one list
each_blocks : (Q : List ℕ → Type 0) (f : ℕ → List (List ℕ)) (ys : List ℕ) → Each (λ y. Each (λ r. Q (y ∷ r)) (f y)) ys → Each Q (flat_map (λ x. map (x ∷◌) (f x)) ys)
each_blocks Q f [] h = tt
each_blocks Q f (y ∷ ys) h = each_append Q (map (y ∷◌) (f y)) (flat_map (λ x. map (x ∷◌) (f x)) ys) (each_map Q (y ∷◌) (f y) h.0) (each_blocks Q f ys h.1)

ascending_blocks : (f : ℕ → List (List ℕ)) (ys : List ℕ) → Ascending (λ x y. x < y) ys → ((x : ℕ) → Ascending IsEarlier (f x)) → Ascending IsEarlier (flat_map (λ x. map (x ∷◌) (f x)) ys)
ascending_blocks f [] h k = tt
ascending_blocks f (y ∷ ys) h k =
    ascending_append IsEarlier (map (y ∷◌) (f y)) (flat_map (λ x. map (x ∷◌) (f x)) ys) (ascending_map y (f y) (k y)) (ascending_blocks f ys h.1 k)
    (each_map (λ q. Each (IsEarlier q) (flat_map (λ x. map (x ∷◌) (f x)) ys)) (y ∷◌) (f y)
    (each_always (λ r. Each (IsEarlier (y ∷ r)) (flat_map (λ x. map (x ∷◌) (f x)) ys)) (λ r. each_blocks (IsEarlier (y ∷ r)) f ys
    (each_weaken (λ z. y < z) (λ z. Each (λ q. IsEarlier (y ∷ r) (z ∷ q)) (f z)) (λ z l. each_always (λ q. IsEarlier (y ∷ r) (z ∷ q)) (λ q. inl l) (f z)) ys h.0)) (f y)))

arrangements_ascending : (n : ℕ) (xs : List ℕ) → Ascending (λ x y. x < y) xs → Ascending IsEarlier (arrangements n xs)
arrangements_ascending zero xs h = (tt, tt)
arrangements_ascending (suc n) xs h = ascending_blocks (λ x. arrangements n (filter (λ y. not (y == x)) xs)) xs h (λ x. arrangements_ascending n (filter (λ y. not (y == x)) xs) (ascending_filter (λ a b. a < b) (λ y. not (y == x)) xs h))

-- an arrangement has members of the list
each_arrangement : (P : ℕ → Type 0) (n : ℕ) (xs : List ℕ) → Each P xs → Each (Each P) (arrangements n xs)
each_arrangement P zero xs h = (tt, tt)
each_arrangement P (suc n) xs h =
    each_blocks (Each P) (λ x. arrangements n (filter (λ y. not (y == x)) xs)) xs
    (each_weaken P (λ x. Each (λ r. Each P (x ∷ r)) (arrangements n (filter (λ y. not (y == x)) xs))) (λ x p. each_weaken (Each P) (λ r. Each P (x ∷ r)) (λ r e. (p, e)) (arrangements n (filter (λ y. not (y == x)) xs)) (each_arrangement P n (filter (λ y. not (y == x)) xs) (each_filter P (λ y. not (y == x)) xs h))) xs h)

not_both : (a b : List ℕ) → IsEarlier a b → IsEarlier b a → ⊥
not_both [] b h k = absurd h
not_both (x ∷ a) [] h k = absurd h
not_both (x ∷ a) (y ∷ b) (inl h) (inl k) = omega arith
not_both (x ∷ a) (y ∷ b) (inl h) (inr k) = let e = k.0 in omega arith
not_both (x ∷ a) (y ∷ b) (inr h) (inl k) = let e = h.0 in omega arith
not_both (x ∷ a) (y ∷ b) (inr h) (inr k) = not_both a b h.1 k.1

-- what is earlier than a member stands before it
stands_before : (before after : List (List ℕ)) (s r : List ℕ) → Ascending IsEarlier (before ++ s ∷ after) → Contains (before ++ s ∷ after) r → IsEarlier r s → Contains before r
stands_before [] after s r h c e = absurd (⊎_elim (λ q. let k = subst (λ z. IsEarlier z s) (sym q) e in not_both s s k k) (λ d. not_both r s e (each_contains (IsEarlier s) after r h.0 d)) (contains_cases s after r c))
stands_before (b ∷ before) after s r h c e = ⊎_elim (λ q. subst (Contains (b ∷ before)) q (contains_first b before)) (λ d. contains_behind b before r (stands_before before after s r h.1 d e)) (contains_cases b (before ++ s ∷ after) r c)

pub not_before_empty : (r : List ℕ) → IsEarlier r [] → ⊥
not_before_empty [] h = absurd h
not_before_empty (x ∷ r) h = absurd h

-- an empty floor bounds nothing
pub floor_empty : (rules : List Rule) (count left : ℕ) (before : List ℕ) → IsFloor rules count left before []
floor_empty rules count left before = record { below = all_each (λ y. y < count) [] tt; refused = λ rest c l. absurd (not_before_empty rest l) }

-- a lower bound of the precedences bounds the search
pub floor_from_bound : (rules : List Rule) (count : ℕ) (start empty : List ℕ) → empty ≡ [] → IsLowerBound count rules start → IsFloor rules count count empty start
floor_from_bound rules count start empty nothing (before, after, e, n) =
    subst (λ z. IsFloor rules count count z start) (sym nothing) (record {
      below = all_each (λ y. y < count) start (each_contains (Each (λ y. y < count)) (precedences count) start (each_arrangement (λ y. y < count) count (range_with_len 0 count) (each_range_below count 0 count (omega arith))) (subst (λ z. Contains z start) (sym e) (Contains-append_right before (start ∷ after) start (contains_first start after))));
      refused = λ rest c l. All-contains (λ prec. ¬ LpoOrients prec rules) before rest n (stands_before before after start rest (subst (Ascending IsEarlier) e (arrangements_ascending count (range_with_len 0 count) (ascending_range 0 count))) (subst (λ z. Contains z rest) e (subst (λ z. Contains (arrangements count z) rest) (outside_all (range_with_len 0 count)) c)) l);
    })

-- the floor's first number is within the symbols
pub lowest_within : (rules : List Rule) (count left : ℕ) (before floor : List ℕ) → IsFloor rules count left before floor → lowest_of floor ≤ count
lowest_within rules count left before [] f = omega arith
lowest_within rules count left before (y ∷ ys) f = let h = f.below 0 y (omega arith) in omega arith

-- the arrangements that begin with a symbol below y come first
tried_first : (n : ℕ) (xs : List ℕ) (count y : ℕ) → y < count → (more : List (List ℕ)) × arrangements (suc n) (outside count xs) ≡ tried n xs count y ++ more
tried_first n xs count y h =
    let r = range_split 0 y count h in
    (flat_map (block n xs count) (filter (test xs) ((0 + y) ∷ r.0)), ap (λ z. flat_map (block n xs count) (filter (test xs) z)) r.1 ∙ ap (flat_map (block n xs count)) (filter-append (test xs) (range_with_len 0 y) ((0 + y) ∷ r.0)) ∙ flat_map-append (block n xs count) (outside y xs) (filter (test xs) ((0 + y) ∷ r.0)))

-- none of those that begin with a symbol below the floor's first orients the rules
pub lowest_refused : (rules : List Rule) (count left n : ℕ) (xs floor : List ℕ) → suc n ≡ left → IsFloor rules count left xs floor → IsFirst (λ r. LpoOrients (xs ++ r) rules) (tried n xs count (lowest_of floor)) None
lowest_refused rules count left n xs [] e f = λ k d i q. absurd (omega arith)
lowest_refused rules count left n xs (y ∷ ys) e f = λ k d i q.
    let r = slice_index_or (tried n xs count y) k d in
    let c : Contains (tried n xs count y) r = All-contains_itself (tried n xs count y) k d i in
    let more = tried_first n xs count y (f.below 0 y (omega arith)) in
    let member = subst (λ z. Contains z r) (sym more.1) (Contains-append_left (tried n xs count y) more.0 r c) in
    let earlier : Each (λ r. IsEarlier r (y ∷ ys)) (tried n xs count y) = each_blocks (λ r. IsEarlier r (y ∷ ys)) (λ x. arrangements n (filter (λ y. not (y == x)) (outside count xs))) (outside y xs)
    (each_weaken (λ z. z < y) (λ z. Each (λ r. IsEarlier (z ∷ r) (y ∷ ys)) (arrangements n (filter (λ y. not (y == z)) (outside count xs)))) (λ z h. each_always (λ r. IsEarlier (z ∷ r) (y ∷ ys)) (λ r. inl h) (arrangements n (filter (λ y. not (y == z)) (outside count xs)))) (outside y xs) (each_filter (λ z. z < y) (test xs) (range_with_len 0 y) (each_range_below y 0 y (omega arith)))) in
    f.refused r (subst (λ m. Contains (arrangements m (outside count xs)) r) e member) (each_contains (λ r. IsEarlier r (y ∷ ys)) (tried n xs count y) r earlier c) q

contains_map : (x : ℕ) (rs : List (List ℕ)) (r : List ℕ) → Contains rs r → Contains (map (x ∷◌) rs) (x ∷ r)
contains_map x [] r c = absurd (omega arith)
contains_map x (q ∷ rs) r c = ⊎_elim (λ e. subst (Contains (map (x ∷◌) (q ∷ rs))) (ap (x ∷◌) e) (contains_first (x ∷ q) (map (x ∷◌) rs))) (λ d. contains_behind (x ∷ q) (map (x ∷◌) rs) (x ∷ r) (contains_map x rs r d)) (contains_cases q rs r c)

-- an arrangement behind one more symbol is one with that symbol in front
contains_next : (n : ℕ) (xs : List ℕ) (count y : ℕ) (r : List ℕ) → y < count → ¬ Contains xs y → Contains (arrangements n (outside count (xs ++ y ∷ []))) r → Contains (arrangements (suc n) (outside count xs)) (y ∷ r)
contains_next n xs count y r h d c =
    let b = all_blocks n xs count y h d in
    let m = contains_map y (arrangements n (filter (λ z. not (z == y)) (outside count xs))) r (subst (λ z. Contains (arrangements n z) r) (sym (outside_next xs count y)) c) in
    subst (λ z. Contains z (y ∷ r)) (sym b.1) (Contains-append_right (tried n xs count y) (block n xs count y ++ b.0) (y ∷ r) (Contains-append_left (block n xs count y) b.0 (y ∷ r) m))

below_behind : (count y : ℕ) (floor : List ℕ) → All (λ z. z < count) floor → All (λ z. z < count) (floor_behind floor y)
below_behind count y [] h = h
below_behind count y (g ∷ gs) h = elim (g == y) as (λ b. All (λ z. z < count) (cond b gs [])) [ true ↦ (λ k d i. h (suc k) d (omega arith)) | false ↦ (λ k d i. absurd (omega arith)) ]

earlier_behind : (y : ℕ) (floor r : List ℕ) → IsEarlier r (floor_behind floor y) → IsEarlier (y ∷ r) floor
earlier_behind y [] r l = absurd (not_before_empty r l)
earlier_behind y (g ∷ gs) r l = go (g == y) refl l
  where
    go : (b : Bool) → (g == y) ≡ b → IsEarlier r (cond b gs []) → IsEarlier (y ∷ r) (g ∷ gs)
    go true e l = inr ((let q : y ≡ g = grind (arith, e) in q), l)
    go false e l = absurd (not_before_empty r l)

-- the floor behind one more symbol
pub floor_next : (rules : List Rule) (count left n y : ℕ) (xs ys floor rest : List ℕ) → suc n ≡ left → ys ≡ xs ++ y ∷ [] → y < count → ¬ Contains xs y → rest ≡ floor_behind floor y → IsFloor rules count left xs floor → IsFloor rules count n ys rest
floor_next rules count left n y xs ys floor rest e d h c q f =
    subst₂ (λ zs z. IsFloor rules count n zs z) (sym d) (sym q) (record {
      below = below_behind count y floor f.below;
      refused = λ r m l o. f.refused (y ∷ r) (subst (λ k. Contains (arrangements k (outside count xs)) (y ∷ r)) e (contains_next n xs count y r h c m)) (earlier_behind y floor r l) (subst (λ z. LpoOrients z rules) (append_assoc xs (y ∷ []) r) o);
    })

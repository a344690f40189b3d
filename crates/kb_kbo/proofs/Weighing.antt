-- The first order, weight by weight.
use Rattle.std.proofs.Common.{ℕ, zero, suc, ◌≡◌, ◌<◌, ◌≤◌, ◌+◌, ◌++◌, ◌⊎◌, inl, inr, ⊎_elim, List, [], ◌∷◌, length, refl, sym, ap, ◌∙◌, subst, arith, map, flat_map, Bool, true, false, Contains, cond, All, get_or, ◌==◌}
use Rattle.std.specs.Prelude.{Some, None, Option, replicate, slice_index_or, option_map}
use Rattle.std.specs.List.{AllZip}
use Rattle.std.specs.Option.{option_to_list, IsSome}
use Rattle.std.proofs.lemmas.Bool.{cases_lt, cases_eq, le-leb, false≢true}
use Rattle.std.proofs.lemmas.Bool.Decides.{leb_tells}
use Rattle.std.proofs.lemmas.List.{append_assoc, length-append, map-append, append-nil}
use Rattle.std.proofs.lemmas.List.Elements.{Contains-append_cases, Contains-append_right}
use Rattle.std.proofs.lemmas.Grind.{flat_map-append}
use Rattle.kb_lemmas.proofs.Membership.{contains_cases, contains_first, contains_flat_map_back, contains_map, contains_flat_map}
use Rattle.kb_term.specs.First.{IsFirst}
use Rattle.kb_term.specs.Rule.{Rule}
use Rattle.kb_term.specs.Signature.{Signature}
use Rattle.kb_lpo.specs.Precedences.{precedences}
use Rattle.kb_lpo.proofs.First.{snoc_inj, none_append}
use Rattle.kb_linear.specs.Numbers.{IsLess}
use Rattle.kb_linear.proofs.Sorted.{IsSorted, IsListLess, AreSorted, sorted_flat_map, sorted_map, sorted_choices, sorted_after, contains_at, contains_map_back, choices_from, choices_to}
use Rattle.kb_kbo.specs.KnuthBendix.{KboOrder}
use Rattle.kb_kbo.specs.Measures.{order_of}
use Rattle.kb_kbo.specs.Orders.{KboOrients, weightings, kbo_orders, orders_of, IsFirstKbo, IsLowerBound}
use Rattle.kb_kbo.specs.Search.{orders_behind, IsWeighed, IsFloor, lowest_of, floor_behind}

-- so many weights from 1 to 3
abbrev pub IsChosen : ℕ → List ℕ → Type 0
IsChosen zero [] = Unit {0}
IsChosen zero (x ∷ xs) = ⊥
IsChosen (suc n) [] = ⊥
IsChosen (suc n) (x ∷ xs) = (1 ≤ x) × (x ≤ 3) × IsChosen n xs

one_to_three : (x : ℕ) → Contains (1 ∷ 2 ∷ 3 ∷ []) x → (1 ≤ x) × (x ≤ 3)
one_to_three x c =
    ⊎_elim (λ e. (omega arith, omega arith)) (λ d. ⊎_elim (λ e. (omega arith, omega arith)) (λ f. ⊎_elim (λ e. (omega arith, omega arith)) (λ g. absurd (omega arith)) (contains_cases 3 [] x f)) (contains_cases 2 (3 ∷ []) x d)) (contains_cases 1 (2 ∷ 3 ∷ []) x c)

three_from : (x : ℕ) → 1 ≤ x → x ≤ 3 → Contains (1 ∷ 2 ∷ 3 ∷ []) x
three_from x h l = ⊎_elim (λ k. let e : 1 ≡ x = omega arith in (0, omega arith, e)) (λ k. ⊎_elim (λ j. let e : 2 ≡ x = omega arith in (1, omega arith, e)) (λ j. let e : 3 ≡ x = omega arith in (2, omega arith, e)) (cases_lt x 3)) (cases_lt x 2)

chosen_zip : (n : ℕ) (w : List ℕ) → AllZip (λ xs y. Contains xs y) (replicate n (1 ∷ 2 ∷ 3 ∷ [])) w → IsChosen n w
chosen_zip zero [] h = tt
chosen_zip zero (x ∷ w) h = absurd h
chosen_zip (suc n) [] h = absurd h
chosen_zip (suc n) (x ∷ w) h = let r = one_to_three x h.0 in (r.0, r.1, chosen_zip n w h.1)

zip_chosen : (n : ℕ) (w : List ℕ) → IsChosen n w → AllZip (λ xs y. Contains xs y) (replicate n (1 ∷ 2 ∷ 3 ∷ [])) w
zip_chosen zero [] h = tt
zip_chosen zero (x ∷ w) h = absurd h
zip_chosen (suc n) [] h = absurd h
zip_chosen (suc n) (x ∷ w) h = (three_from x h.0 h.1, zip_chosen n w h.2)

pub chosen_from : (n : ℕ) (w : List ℕ) → Contains (weightings n) w → IsChosen n w
chosen_from n w c = chosen_zip n w (choices_from (replicate n (1 ∷ 2 ∷ 3 ∷ [])) w c)

pub chosen_to : (n : ℕ) (w : List ℕ) → IsChosen n w → Contains (weightings n) w
chosen_to n w h = choices_to (replicate n (1 ∷ 2 ∷ 3 ∷ [])) w (zip_chosen n w h)

pub chosen_length : (n : ℕ) (w : List ℕ) → IsChosen n w → length w ≡ n
chosen_length zero [] h = refl
chosen_length zero (x ∷ w) h = absurd h
chosen_length (suc n) [] h = absurd h
chosen_length (suc n) (x ∷ w) h = ap suc (chosen_length n w h.2)

chosen_at : (n : ℕ) (w : List ℕ) (f : ℕ) → IsChosen n w → (1 ≤ slice_index_or w f 1) × (slice_index_or w f 1 ≤ 3)
chosen_at zero [] f h = (omega arith, omega arith)
chosen_at zero (x ∷ w) f h = absurd h
chosen_at (suc n) [] f h = absurd h
chosen_at (suc n) (x ∷ w) zero h = (h.0, h.1)
chosen_at (suc n) (x ∷ w) (suc f) h = chosen_at n w f h.2

pub chosen_between : (before : List ℕ) (n : ℕ) (w : List ℕ) (f : ℕ) → IsChosen n w → (slice_index_or before f 1 ≤ slice_index_or (before ++ w) f 1) × (slice_index_or (before ++ w) f 1 ≤ slice_index_or before f 3)
chosen_between [] n w f h = chosen_at n w f h
chosen_between (b ∷ before) n w zero h = (omega arith, omega arith)
chosen_between (b ∷ before) n w (suc f) h = chosen_between before n w f h

-- none orients the rules, where none with further weights from 1 to 3 does
pub none_behind : (rules : List Rule) (k left : ℕ) (before : List ℕ) → ((w p : List ℕ) → IsChosen left w → Contains (precedences k) p → ¬ KboOrients (order_of (before ++ w) p) rules) → IsFirst (λ order. KboOrients order rules) (orders_behind k left before) None
none_behind rules k left before h = λ i d l q.
    let o : KboOrder = get_or (orders_behind k left before) i d in
    let r = contains_flat_map_back (λ (w : List ℕ). map (λ (p : List ℕ). order_of (before ++ w) p) (precedences k)) (weightings left) o (contains_at (orders_behind k left before) i d l) in
    let s = contains_map_back (λ (p : List ℕ). order_of (before ++ r.0) p) (precedences k) o r.2 in
    h r.0 s.0 (chosen_from left r.0 r.1) s.1 (subst (λ (z : KboOrder). KboOrients z rules) (sym s.2) q)

-- firsts of joined and of mapped lists
none_map : {X Y : Type 0} (Q : Y → Type 0) (f : X → Y) (xs : List X) → IsFirst (λ x. Q (f x)) xs None → IsFirst Q (map f xs) None
none_map Q f [] h k d i = absurd (omega arith)
none_map Q f (x ∷ xs) h zero d i = h 0 x (omega arith)
none_map Q f (x ∷ xs) h (suc k) d i = none_map Q f xs (λ j e q. h (suc j) e (omega arith)) k d (omega arith)

some_map : {X Y : Type 0} (Q : Y → Type 0) (f : X → Y) (xs : List X) (x : X) → IsFirst (λ x. Q (f x)) xs (Some x) → IsFirst Q (map f xs) (Some (f x))
some_map Q f xs x (h, before, after, e, n) = (h, map f before, map f after, ap (map f) e ∙ map-append f before (x ∷ after), none_map Q f before n)

some_front : {X : Type 0} (Q : X → Type 0) (xs ys : List X) (x : X) → IsFirst Q xs (Some x) → IsFirst Q (xs ++ ys) (Some x)
some_front Q xs ys x (h, before, after, e, n) = (h, before, after ++ ys, ap (λ z. z ++ ys) e ∙ append_assoc before (x ∷ after) ys, n)

some_behind : {X : Type 0} (Q : X → Type 0) (xs ys : List X) (x : X) → IsFirst Q xs None → IsFirst Q ys (Some x) → IsFirst Q (xs ++ ys) (Some x)
some_behind Q xs ys x m (h, before, after, e, n) = (h, xs ++ before, after, ap (λ z. xs ++ z) e ∙ sym (append_assoc xs before (x ∷ after)), none_append Q xs before m n)

-- with no weight left, the precedences of the weights that are given
leaf_orders : (k : ℕ) (ws : List ℕ) → orders_behind k 0 ws ≡ map (λ (p : List ℕ). order_of ws p) (precedences k)
leaf_orders k ws = append-nil (map (λ (p : List ℕ). order_of (ws ++ []) p) (precedences k)) ∙ ap (λ (z : List ℕ). map (λ (p : List ℕ). order_of z p) (precedences k)) (append-nil ws)

pub leaf_weighed : (rules : List Rule) (k n left : ℕ) (ws list : List ℕ) (found : Option (List ℕ)) → left ≡ 0 → n ≡ k → list ≡ ws → IsFirst (λ p. KboOrients (order_of list p) rules) (precedences n) found → IsWeighed rules k left ws ws found
leaf_weighed rules k n left ws list found z m e h = at_zero found (subst (λ (i : ℕ). IsFirst (λ p. KboOrients (order_of ws p) rules) (precedences i) found) m (subst (λ (l : List ℕ). IsFirst (λ p. KboOrients (order_of l p) rules) (precedences n) found) e h))
  where
    at_zero : (found : Option (List ℕ)) → IsFirst (λ p. KboOrients (order_of ws p) rules) (precedences k) found → IsWeighed rules k left ws ws found
    at_zero None h =
        (refl, subst (λ (i : ℕ). IsFirst (λ order. KboOrients order rules) (orders_behind k i ws) None) (sym z) (subst (λ os. IsFirst (λ order. KboOrients order rules) os None) (sym (leaf_orders k ws)) (none_map (λ order. KboOrients order rules) (λ (p : List ℕ). order_of ws p) (precedences k) h)))
    at_zero (Some p) h =
        subst (λ (i : ℕ). IsFirst (λ order. KboOrients order rules) (orders_behind k i ws) (Some (order_of ws p))) (sym z) (subst (λ os. IsFirst (λ order. KboOrients order rules) os (Some (order_of ws p))) (sym (leaf_orders k ws)) (some_map (λ order. KboOrients order rules) (λ (p : List ℕ). order_of ws p) (precedences k) p h))

-- the orders with one more weight
moved : (k : ℕ) (before : List ℕ) (x : ℕ) (ws : List (List ℕ)) → flat_map (λ (w : List ℕ). map (λ (p : List ℕ). order_of (before ++ w) p) (precedences k)) (map (x ∷◌) ws) ≡ flat_map (λ (w : List ℕ). map (λ (p : List ℕ). order_of ((before ++ x ∷ []) ++ w) p) (precedences k)) ws
moved k before x [] = refl
moved k before x (w ∷ ws) =
    ap (λ (z : List ℕ). map (λ (p : List ℕ). order_of z p) (precedences k) ++ flat_map (λ (w : List ℕ). map (λ (p : List ℕ). order_of (before ++ w) p) (precedences k)) (map (x ∷◌) ws)) (sym (append_assoc before (x ∷ []) w))
    ∙ ap (λ z. map (λ (p : List ℕ). order_of ((before ++ x ∷ []) ++ w) p) (precedences k) ++ z) (moved k before x ws)

abbrev orders_next : ℕ → ℕ → List ℕ → ℕ → List KboOrder
orders_next k n before x = orders_behind k n (before ++ x ∷ [])

three_weights : (k n : ℕ) (before : List ℕ) → orders_behind k (suc n) before ≡ orders_next k n before 1 ++ (orders_next k n before 2 ++ (orders_next k n before 3 ++ []))
three_weights k n before =
    let g : List ℕ → List KboOrder = λ w. map (λ (p : List ℕ). order_of (before ++ w) p) (precedences k) in
    let ws = weightings n in
    flat_map-append g (map (1 ∷◌) ws) (map (2 ∷◌) ws ++ (map (3 ∷◌) ws ++ []))
    ∙ ap (λ z. flat_map g (map (1 ∷◌) ws) ++ z) (flat_map-append g (map (2 ∷◌) ws) (map (3 ∷◌) ws ++ []) ∙ ap (λ z. flat_map g (map (2 ∷◌) ws) ++ z) (flat_map-append g (map (3 ∷◌) ws) []))
    ∙ ap (λ z. z ++ (flat_map g (map (2 ∷◌) ws) ++ (flat_map g (map (3 ∷◌) ws) ++ []))) (moved k before 1 ws)
    ∙ ap (λ z. orders_next k n before 1 ++ (z ++ (flat_map g (map (3 ∷◌) ws) ++ []))) (moved k before 2 ws)
    ∙ ap (λ z. orders_next k n before 1 ++ (orders_next k n before 2 ++ (z ++ []))) (moved k before 3 ws)

-- none below x orients the rules
abbrev pub NoneBelow : List Rule → ℕ → ℕ → List ℕ → ℕ → Type 0
NoneBelow rules k n before v = (x : ℕ) → 1 ≤ x → x ≤ 3 → x < v → IsFirst (λ order. KboOrients order rules) (orders_behind k n (before ++ x ∷ [])) None

pub some_weighed : (rules : List Rule) (k n left : ℕ) (before : List ℕ) (v : ℕ) (o : KboOrder) → suc n ≡ left → 1 ≤ v → v ≤ 3 → NoneBelow rules k n before v → IsFirst (λ order. KboOrients order rules) (orders_behind k n (before ++ v ∷ [])) (Some o) → IsFirst (λ order. KboOrients order rules) (orders_behind k left before) (Some o)
some_weighed rules k n left before v o e h l none s =
    subst (λ (m : ℕ). IsFirst (λ order. KboOrients order rules) (orders_behind k m before) (Some o)) e
    (subst (λ os. IsFirst (λ order. KboOrients order rules) os (Some o)) (sym (three_weights k n before))
    (⊎_elim (λ i. first (let q : v ≡ 1 = omega arith in q)) (λ i. ⊎_elim (λ j. second (let q : v ≡ 2 = omega arith in q)) (λ j. third (let q : v ≡ 3 = omega arith in q)) (cases_lt v 3)) (cases_lt v 2)))
  where
    Q : KboOrder → Type 0
    Q order = KboOrients order rules

    at_place : (x : ℕ) → v ≡ x → IsFirst (λ order. KboOrients order rules) (orders_next k n before x) (Some o)
    at_place x q = subst (λ (y : ℕ). IsFirst (λ order. KboOrients order rules) (orders_next k n before y) (Some o)) q s

    first : v ≡ 1 → IsFirst (λ order. KboOrients order rules) (orders_next k n before 1 ++ (orders_next k n before 2 ++ (orders_next k n before 3 ++ []))) (Some o)
    first q = some_front (λ order. KboOrients order rules) (orders_next k n before 1) (orders_next k n before 2 ++ (orders_next k n before 3 ++ [])) o (at_place 1 q)

    second : v ≡ 2 → IsFirst (λ order. KboOrients order rules) (orders_next k n before 1 ++ (orders_next k n before 2 ++ (orders_next k n before 3 ++ []))) (Some o)
    second q =
        some_behind (λ order. KboOrients order rules) (orders_next k n before 1) (orders_next k n before 2 ++ (orders_next k n before 3 ++ [])) o (none 1 (omega arith) (omega arith) (omega arith))
        (some_front (λ order. KboOrients order rules) (orders_next k n before 2) (orders_next k n before 3 ++ []) o (at_place 2 q))

    third : v ≡ 3 → IsFirst (λ order. KboOrients order rules) (orders_next k n before 1 ++ (orders_next k n before 2 ++ (orders_next k n before 3 ++ []))) (Some o)
    third q =
        some_behind (λ order. KboOrients order rules) (orders_next k n before 1) (orders_next k n before 2 ++ (orders_next k n before 3 ++ [])) o (none 1 (omega arith) (omega arith) (omega arith))
        (some_behind (λ order. KboOrients order rules) (orders_next k n before 2) (orders_next k n before 3 ++ []) o (none 2 (omega arith) (omega arith) (omega arith))
        (some_front (λ order. KboOrients order rules) (orders_next k n before 3) [] o (at_place 3 q)))

pub none_weighed : (rules : List Rule) (k n left : ℕ) (before : List ℕ) (v : ℕ) → suc n ≡ left → 3 < v → NoneBelow rules k n before v → IsFirst (λ order. KboOrients order rules) (orders_behind k left before) None
none_weighed rules k n left before v e h none =
    subst (λ (m : ℕ). IsFirst (λ order. KboOrients order rules) (orders_behind k m before) None) e
    (subst (λ os. IsFirst (λ order. KboOrients order rules) os None) (sym (three_weights k n before))
    (none_append (λ order. KboOrients order rules) (orders_next k n before 1) (orders_next k n before 2 ++ (orders_next k n before 3 ++ [])) (none 1 (omega arith) (omega arith) (omega arith))
    (none_append (λ order. KboOrients order rules) (orders_next k n before 2) (orders_next k n before 3 ++ []) (none 2 (omega arith) (omega arith) (omega arith))
    (none_append (λ order. KboOrients order rules) (orders_next k n before 3) [] (none 3 (omega arith) (omega arith) (omega arith)) (λ i d l. absurd (omega arith))))))

-- one more weight without an order
pub none_more : (rules : List Rule) (k n : ℕ) (before : List ℕ) (v : ℕ) → NoneBelow rules k n before v → IsFirst (λ order. KboOrients order rules) (orders_behind k n (before ++ v ∷ [])) None → NoneBelow rules k n before (v + 1)
none_more rules k n before v none s = λ x h m l. ⊎_elim (λ e. subst (λ (y : ℕ). IsFirst (λ order. KboOrients order rules) (orders_behind k n (before ++ y ∷ [])) None) (sym e) s) (λ d. none x h m (omega (arith, d))) (cases_eq x v)

-- none with a weight below the floor's first orients the rules
pub none_lowest : (rules : List Rule) (k n left : ℕ) (before floor : List ℕ) → suc n ≡ left → IsFloor rules k left before floor → NoneBelow rules k n before (lowest_of floor)
none_lowest rules k n left before [] e f = λ x h m l. absurd (omega arith)
none_lowest rules k n left before (g ∷ gs) e f = λ x h m l.
    none_behind rules k n (before ++ x ∷ []) (λ w p c q o. f.refused (x ∷ w) p (subst (λ (i : ℕ). Contains (weightings i) (x ∷ w)) e (chosen_to (suc n) (x ∷ w) (h, m, c))) (inl l) q (subst (λ (z : List ℕ). KboOrients (order_of z p) rules) (append_assoc before (x ∷ []) w) o))

-- the floor's first weight is at least 1
pub lowest_least : (rules : List Rule) (k left : ℕ) (before floor : List ℕ) → IsFloor rules k left before floor → 1 ≤ lowest_of floor
lowest_least rules k left before [] f = omega arith
lowest_least rules k left before (g ∷ gs) f = f.least 0 g (omega arith)

-- the floor behind one more weight
least_behind : (v : ℕ) (floor : List ℕ) → All (λ w. 1 ≤ w) floor → All (λ w. 1 ≤ w) (floor_behind floor v)
least_behind v [] h = h
least_behind v (g ∷ gs) h = elim (g == v) as (λ b. All (λ w. 1 ≤ w) (cond b gs [])) [ true ↦ (λ k d i. h (suc k) d (omega arith)) | false ↦ (λ k d i. absurd (omega arith)) ]

not_less_empty : (w : List ℕ) → IsLess w [] → ⊥
not_less_empty [] h = absurd h
not_less_empty (x ∷ w) h = absurd h

less_behind : (v : ℕ) (floor w : List ℕ) → IsLess w (floor_behind floor v) → IsLess (v ∷ w) floor
less_behind v [] w l = absurd (not_less_empty w l)
less_behind v (g ∷ gs) w l = go (g == v) refl l
  where
    go : (b : Bool) → (g == v) ≡ b → IsLess w (cond b gs []) → IsLess (v ∷ w) (g ∷ gs)
    go true e l = inr ((let q : v ≡ g = grind (arith, e) in q), l)
    go false e l = absurd (not_less_empty w l)

pub floor_next : (rules : List Rule) (k i n left v : ℕ) (before ws floor rest : List ℕ) → suc n ≡ left → k ≡ i → ws ≡ before ++ v ∷ [] → 1 ≤ v → v ≤ 3 → rest ≡ floor_behind floor v → IsFloor rules k left before floor → IsFloor rules i n ws rest
floor_next rules k i n left v before ws floor rest e j d h m q f =
    subst (λ (y : ℕ). IsFloor rules y n ws rest) j (subst (λ (z : List ℕ). IsFloor rules k n z rest) (sym d) (subst (λ (z : List ℕ). IsFloor rules k n (before ++ v ∷ []) z) (sym q) (record {
      least = least_behind v floor f.least;
      refused = λ w p c l r o. f.refused (v ∷ w) p (subst (λ (y : ℕ). Contains (weightings y) (v ∷ w)) e (chosen_to (suc n) (v ∷ w) (h, m, chosen_from n w c))) (less_behind v floor w l) r (subst (λ (z : List ℕ). KboOrients (order_of z p) rules) (append_assoc before (v ∷ []) w) o);
    })))

-- an empty floor bounds nothing
pub floor_empty : (rules : List Rule) (k left : ℕ) (before : List ℕ) → IsFloor rules k left before []
floor_empty rules k left before = record { least = λ i d l. absurd (omega arith); refused = λ w p c l q o. absurd (not_less_empty w l) }

-- orders stand in ascending order of their weights
abbrev IsNotAfter : KboOrder → KboOrder → Type 0
IsNotAfter o q = ¬ IsListLess (λ x y. x < y) q.weights o.weights

any_sorted : {X : Type 0} (xs : List X) → IsSorted (λ (x y : X). Unit {0}) xs
any_sorted [] = tt
any_sorted (x ∷ xs) = (λ y c. tt, any_sorted xs)

list_less_self : (xs : List ℕ) → ¬ IsListLess (λ x y. x < y) xs xs
list_less_self [] h = absurd h
list_less_self (x ∷ xs) (inl h) = omega arith
list_less_self (x ∷ xs) (inr h) = list_less_self xs h.1

list_less_both : (xs ys : List ℕ) → IsListLess (λ x y. x < y) xs ys → ¬ IsListLess (λ x y. x < y) ys xs
list_less_both [] ys h g = absurd h
list_less_both (x ∷ xs) [] h g = absurd h
list_less_both (x ∷ xs) (y ∷ ys) (inl h) (inl g) = omega arith
list_less_both (x ∷ xs) (y ∷ ys) (inl h) (inr g) = let e = g.0 in omega arith
list_less_both (x ∷ xs) (y ∷ ys) (inr h) (inl g) = let e = h.0 in omega arith
list_less_both (x ∷ xs) (y ∷ ys) (inr h) (inr g) = list_less_both xs ys h.1 g.1

list_less_from : (xs ys : List ℕ) → IsLess xs ys → IsListLess (λ x y. x < y) xs ys
list_less_from [] ys h = absurd h
list_less_from (x ∷ xs) [] h = absurd h
list_less_from (x ∷ xs) (y ∷ ys) (inl h) = inl h
list_less_from (x ∷ xs) (y ∷ ys) (inr h) = inr (h.0, list_less_from xs ys h.1)

one_two_three : IsSorted (λ x y. x < y) (1 ∷ 2 ∷ 3 ∷ [])
one_two_three = (
  λ y c. ⊎_elim (λ e. omega arith) (λ d. ⊎_elim (λ e. omega arith) (λ f. absurd (omega arith)) (contains_cases 3 [] y d)) (contains_cases 2 (3 ∷ []) y c),
  (λ y c. ⊎_elim (λ e. omega arith) (λ d. absurd (omega arith)) (contains_cases 3 [] y c), (λ y c. absurd (omega arith), tt)),
)

weights_sorted : (n : ℕ) → AreSorted (λ x y. x < y) (replicate n (1 ∷ 2 ∷ 3 ∷ []))
weights_sorted zero = tt
weights_sorted (suc n) = (one_two_three, weights_sorted n)

orders_sorted : (k : ℕ) → IsSorted IsNotAfter (orders_of k)
orders_sorted k =
    sorted_flat_map (IsListLess (λ x y. x < y)) IsNotAfter (λ (w : List ℕ). map (λ (p : List ℕ). order_of w p) (precedences k)) (weightings k) (sorted_choices (λ x y. x < y) (replicate k (1 ∷ 2 ∷ 3 ∷ [])) (weights_sorted k))
    (λ w c. sorted_map (λ (p q : List ℕ). Unit {0}) IsNotAfter (λ (p : List ℕ). order_of w p) (precedences k) (any_sorted (precedences k)) (λ p q u h. list_less_self w h))
    (λ w v o q l c d h.
    let r = contains_map_back (λ (p : List ℕ). order_of w p) (precedences k) o c in
    let s = contains_map_back (λ (p : List ℕ). order_of v p) (precedences k) q d in
    list_less_both w v l (subst (λ (z : KboOrder). IsListLess (λ x y. x < y) z.weights w) (sym s.2) (subst (λ (z : KboOrder). IsListLess (λ x y. x < y) q.weights z.weights) (sym r.2) h)))

pub few_orders : (sig : Signature) → length sig ≤ 8 → kbo_orders sig ≡ orders_of (length sig)
few_orders sig h = ap (λ b. cond b (orders_of (length sig)) []) (le-leb (length sig) 8 h)

pub many_orders : (sig : Signature) → 8 < length sig → kbo_orders sig ≡ []
many_orders sig h = ap (λ b. cond b (orders_of (length sig)) []) (⊎_elim (λ d. absurd (omega (arith, d.1))) (λ d. d.0) (leb_tells (length sig) 8))

in_orders : (k : ℕ) (w p : List ℕ) → Contains (weightings k) w → Contains (precedences k) p → Contains (orders_of k) (order_of w p)
in_orders k w p c d = contains_flat_map (λ (w : List ℕ). map (λ (p : List ℕ). order_of w p) (precedences k)) (weightings k) w (order_of w p) c (contains_map (λ (p : List ℕ). order_of w p) (precedences k) p d)

-- a lower bound of the orders bounds the search
pub floor_from_bound : (sig : Signature) (rules : List Rule) (start : KboOrder) → All (λ w. 1 ≤ w) start.weights → IsLowerBound sig rules start → IsFloor rules (length sig) (length sig) [] start.weights
floor_from_bound sig rules start least (before, after, e, n) = record {
  least = least;
  refused = λ w p c l q o. ⊎_elim (few w p c l q o) (λ h. absurd (none (subst (λ z. Contains z start) (sym e ∙ many_orders sig h) there))) (at_most (length sig));
}
  where
    at_most : (k : ℕ) → (k ≤ 8) ⊎ (8 < k)
    at_most k = ⊎_elim (λ h. inr h) (λ h. inl h) (cases_lt 8 k)

    there : Contains (before ++ start ∷ after) start
    there = Contains-append_right before (start ∷ after) start (contains_first start after)

    none : Contains [] start → ⊥
    none c = absurd (omega arith)

    few : (w p : List ℕ) → Contains (weightings (length sig)) w → IsLess w start.weights → Contains (precedences (length sig)) p → KboOrients (order_of w p) rules → length sig ≤ 8 → ⊥
    few w p c l q o h =
        let d : orders_of (length sig) ≡ before ++ start ∷ after = sym (few_orders sig h) ∙ e in
        let s = subst (IsSorted IsNotAfter) d (orders_sorted (length sig)) in
        let m = subst (λ z. Contains z (order_of w p)) d (in_orders (length sig) w p c q) in
        let less = list_less_from w start.weights l in
        ⊎_elim (λ b. n b.0 (order_of w p) b.1 (subst (λ (z : KboOrder). KboOrients z rules) (sym b.2) o))
        (λ b. ⊎_elim (λ i. list_less_self w (subst (λ (z : KboOrder). IsListLess (λ x y. x < y) w z.weights) i less)) (λ i. sorted_after IsNotAfter before after start (order_of w p) s i less) (contains_cases start after (order_of w p) b))
        (Contains-append_cases before (start ∷ after) (order_of w p) m)

-- the first of all orders
pub none_first : (sig : Signature) (rules : List Rule) → 8 < length sig → IsFirstKbo sig rules None
none_first sig rules h = subst (λ os. IsFirst (λ order. KboOrients order rules) os None) (sym (many_orders sig h)) (λ i d l. absurd (omega arith))

pub none_few : (sig : Signature) (rules : List Rule) → length sig ≤ 8 → ((order : KboOrder) → length order.weights ≤ 8 → ¬ KboOrients order rules) → IsFirstKbo sig rules None
none_few sig rules l h =
    subst (λ os. IsFirst (λ order. KboOrients order rules) os None) (sym (few_orders sig l))
    (none_behind rules (length sig) (length sig) [] (λ w p c q o. h (order_of w p) (let e = chosen_length (length sig) w c in omega arith) o))

pub whole_weighed : (sig : Signature) (rules : List Rule) (k left : ℕ) (empty now : List ℕ) (found : Option (List ℕ)) → length sig ≤ 8 → k ≡ length sig → left ≡ length sig → empty ≡ [] → IsWeighed rules k left empty now found → IsFirstKbo sig rules (option_map (λ p. order_of now p) found)
whole_weighed sig rules k left empty now found h e d n s =
    let r = subst (λ (z : List ℕ). IsWeighed rules (length sig) (length sig) z now found) n (subst (λ (y : ℕ). IsWeighed rules (length sig) y empty now found) d (subst (λ (x : ℕ). IsWeighed rules x left empty now found) e s)) in
    go found r
  where
    go : (found : Option (List ℕ)) → IsWeighed rules (length sig) (length sig) [] now found → IsFirstKbo sig rules (option_map (λ p. order_of now p) found)
    go None s = subst (λ os. IsFirst (λ order. KboOrients order rules) os None) (sym (few_orders sig h)) s.1
    go (Some p) s = subst (λ os. IsFirst (λ order. KboOrients order rules) os (Some (order_of now p))) (sym (few_orders sig h)) s

pub all_one : (P : ℕ → Type 0) (x : ℕ) → P x → All P (x ∷ [])
all_one P x p zero d l = p
all_one P x p (suc k) d l = absurd (omega arith)

-- without its last weight the list is as before
pub popped : (xs : List ℕ) (y : ℕ) (old new : List ℕ) (o : Option ℕ) → old ≡ xs ++ y ∷ [] → old ≡ new ++ option_to_list o → (0 < length old → IsSome o) → new ≡ xs
popped xs y old new (Some f) e d v = snoc_inj new xs f y (sym d ∙ e)
popped xs y old new None e d v = absurd (false≢true (v (let l = length-append xs (y ∷ []) in let q = ap length e in omega (arith, l, q))))

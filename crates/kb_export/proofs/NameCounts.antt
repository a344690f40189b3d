-- Lists of names: how many there are, and the names of numbered variables.
use Rattle.std.proofs.Common.{◌≡◌, refl, ap, ap₂, sym, ◌∙◌, arith, ℕ, ◌+◌, ◌<◌, ◌≤◌, ◌==◌, List, [], ◌∷◌, Bool, true, false, not, ◌&&◌, ◌||◌, cond, length}
use Rattle.std.specs.Prelude.{bytes_eq, filter, map, ⊤}
use Rattle.std.specs.List.{list_all}
use Rattle.std.proofs.lemmas.Bool.{false≢true, eqb-true, eq-eqb, and_parts}
use Rattle.std.proofs.Math.Bool.{and-false}
use Rattle.kb_lemmas.proofs.Numbers.{eq_turn}
use Rattle.kb_term.specs.Pair.{distinct, place_in}
use Rattle.kb_text.specs.Names.{Name, is_among, number_of, firsts}
use Rattle.kb_text.specs.Terms.{prefix_length, variable_text}
use Rattle.kb_text.proofs.Firsts.{same_bytes}
use Rattle.kb_text.proofs.RewrittenLists.{among-filter, same_name}
use Rattle.kb_text.proofs.VariableTexts.{one_variable}
use Rattle.kb_export.specs.RuleTexts.{bound_of}

-- ---- how many different names

-- no name stands there twice
abbrev Differ : List Name → Type 0
Differ [] = ⊤
Differ (x ∷ xs) = (is_among xs x ≡ false) × Differ xs

differ_filter : (p : Name → Bool) (xs : List Name) → Differ xs → Differ (filter p xs)
differ_filter p [] d = tt
differ_filter p (x ∷ xs) d = go (p x) (differ_filter p xs d.1)
  where
    go : (v : Bool) → Differ (filter p xs) → Differ (cond v (x ∷ filter p xs) (filter p xs))
    go true h = (among-filter p xs x ∙ ap (p x &&◌) d.0 ∙ and-false (p x), h)
    go false h = h

differ_firsts : (xs : List Name) → Differ (firsts xs)
differ_firsts [] = tt
differ_firsts (x ∷ xs) =
    let p = λ (y : Name). not (bytes_eq y x) in
    (among-filter p (firsts xs) x ∙ ap (λ v. not v && is_among (firsts xs) x) (same_name x), differ_filter p (firsts xs) (differ_firsts xs))

filter_less : (p : Name → Bool) (xs : List Name) → length (filter p xs) ≤ length xs
filter_less p [] = omega arith
filter_less p (x ∷ xs) = go (p x) (filter_less p xs)
  where
    go : (b : Bool) → length (filter p xs) ≤ length xs → length (cond b (x ∷ filter p xs) (filter p xs)) ≤ length (x ∷ xs)
    go true h = omega arith
    go false h = omega arith

-- without a name that stands there
filter_lost : (y : Name) (xs : List Name) → is_among xs y ≡ true → length (filter (λ z. not (bytes_eq z y)) xs) < length xs
filter_lost y [] h = absurd (false≢true h)
filter_lost y (x ∷ xs) h = go (bytes_eq x y) refl (filter_less (λ z. not (bytes_eq z y)) xs) (filter_lost y xs)
  where
    p : Name → Bool
    p z = not (bytes_eq z y)

    not_here : bytes_eq x y ≡ false → (v : Bool) → bytes_eq y x ≡ v → v ≡ false
    not_here e true q = absurd (false≢true (sym e ∙ ap (bytes_eq x) (same_bytes y x q) ∙ same_name x))
    not_here e false q = refl

    go : (b : Bool) → bytes_eq x y ≡ b → length (filter p xs) ≤ length xs → (is_among xs y ≡ true → length (filter p xs) < length xs) → length (cond (not b) (x ∷ filter p xs) (filter p xs)) < length (x ∷ xs)
    go true q l rest = omega arith
    go false q l rest = let r = rest (sym (ap (λ v. v || is_among xs y) (not_here q (bytes_eq y x) refl)) ∙ h) in omega arith

unique_less : (xs ys : List Name) → Differ xs → list_all (is_among ys) xs ≡ true → length xs ≤ length ys
unique_less [] ys d h = omega arith
unique_less (x ∷ xs) ys d h =
    let r = and_parts (is_among ys x) (list_all (is_among ys) xs) h in
    let rest = unique_less xs (filter (λ z. not (bytes_eq z x)) ys) d.1 (others xs d.0 r.1) in
    omega (arith, rest, filter_lost x ys r.0)
  where
    differ : (z : Name) (zs : List Name) → (bytes_eq x z || is_among zs x) ≡ false → (v : Bool) → bytes_eq z x ≡ v → v ≡ false
    differ z zs a true e = absurd (false≢true (sym a ∙ ap (λ v. v || is_among zs x) (ap (bytes_eq x) (same_bytes z x e) ∙ same_name x)))
    differ z zs a false e = refl

    behind : (v w : Bool) → (v || w) ≡ false → w ≡ false
    behind true w e = absurd (false≢true (sym e))
    behind false w e = e

    others : (zs : List Name) → is_among zs x ≡ false → list_all (is_among ys) zs ≡ true → list_all (is_among (filter (λ z. not (bytes_eq z x)) ys)) zs ≡ true
    others [] a g = refl
    others (z ∷ zs) a g =
        let q = and_parts (is_among ys z) (list_all (is_among ys) zs) g in
        ap₂ ◌&&◌ (among-filter (λ z. not (bytes_eq z x)) ys z ∙ ap₂ (λ v w. not v && w) (differ z zs a (bytes_eq z x) refl) q.0) (others zs (behind (bytes_eq x z) (is_among zs x) a) q.1)

all_filter : (p q : Name → Bool) (xs : List Name) → list_all p xs ≡ true → list_all p (filter q xs) ≡ true
all_filter p q [] h = refl
all_filter p q (x ∷ xs) h = go (all_filter p q xs (and_parts (p x) (list_all p xs) h).1) (q x)
  where
    go : list_all p (filter q xs) ≡ true → (v : Bool) → list_all p (cond v (x ∷ filter q xs) (filter q xs)) ≡ true
    go next true = ap₂ ◌&&◌ (and_parts (p x) (list_all p xs) h).0 next
    go next false = next

all_firsts : (p : Name → Bool) (xs : List Name) → list_all p xs ≡ true → list_all p (firsts xs) ≡ true
all_firsts p [] h = refl
all_firsts p (x ∷ xs) h = let r = and_parts (p x) (list_all p xs) h in ap₂ ◌&&◌ r.0 (all_filter p (λ y. not (bytes_eq y x)) (firsts xs) (all_firsts p xs r.1))

-- names among some others are no more than those
pub few_firsts : (xs ys : List Name) → list_all (is_among ys) xs ≡ true → length (firsts xs) ≤ length ys
few_firsts xs ys h = unique_less (firsts xs) ys (differ_firsts xs) (all_firsts (is_among ys) xs h)

-- ---- variables

variable_test : (names : List Name) (j k : ℕ) → j < 64 → k < 64 → bytes_eq (variable_text names j) (variable_text names k) ≡ (j == k)
variable_test names j k a b = go (j == k) refl
  where
    differ : (j == k) ≡ false → (v : Bool) → bytes_eq (variable_text names j) (variable_text names k) ≡ v → v ≡ false
    differ e true f = absurd (false≢true (sym e ∙ eq-eqb j k (one_variable (prefix_length names) j k a b (same_bytes (variable_text names j) (variable_text names k) f))))
    differ e false f = refl

    go : (v : Bool) → (j == k) ≡ v → bytes_eq (variable_text names j) (variable_text names k) ≡ v
    go true e = ap (λ i. bytes_eq (variable_text names j) (variable_text names i)) (sym (eqb-true j k e)) ∙ same_name (variable_text names j)
    go false e = differ e (bytes_eq (variable_text names j) (variable_text names k)) refl

bound_filter : (p : ℕ → Bool) (ns : List ℕ) → bound_of (filter p ns) ≤ bound_of ns
bound_filter p [] = omega arith
bound_filter p (n ∷ ns) = go (p n) (bound_filter p ns)
  where
    go : (b : Bool) → bound_of (filter p ns) ≤ bound_of ns → bound_of (cond b (n ∷ filter p ns) (filter p ns)) ≤ bound_of (n ∷ ns)
    go true h = omega (arith, h)
    go false h = omega (arith, h)

pub bound_distinct : (ns : List ℕ) → bound_of (distinct ns) ≤ bound_of ns
bound_distinct [] = omega arith
bound_distinct (n ∷ ns) = omega (arith, bound_filter (λ y. not (y == n)) (distinct ns), bound_distinct ns)

filter_variables : (names : List Name) (n : ℕ) (ns : List ℕ) → n < 64 → bound_of ns ≤ 64 → filter (λ y. not (bytes_eq y (variable_text names n))) (map (variable_text names) ns) ≡ map (variable_text names) (filter (λ y. not (y == n)) ns)
filter_variables names n [] l h = refl
filter_variables names n (m ∷ ns) l h =
    ap₂ (λ v xs. cond (not v) (variable_text names m ∷ xs) xs) (variable_test names m n (omega (arith, h)) l) (filter_variables names n ns l (omega (arith, h))) ∙ go (not (m == n))
  where
    go : (v : Bool) → cond v (variable_text names m ∷ map (variable_text names) (filter (λ y. not (y == n)) ns)) (map (variable_text names) (filter (λ y. not (y == n)) ns)) ≡ map (variable_text names) (cond v (m ∷ filter (λ y. not (y == n)) ns) (filter (λ y. not (y == n)) ns))
    go true = refl
    go false = refl

pub firsts_variables : (names : List Name) (ns : List ℕ) → bound_of ns ≤ 64 → firsts (map (variable_text names) ns) ≡ map (variable_text names) (distinct ns)
firsts_variables names [] h = refl
firsts_variables names (n ∷ ns) h =
    ap (λ xs. variable_text names n ∷ filter (λ y. not (bytes_eq y (variable_text names n))) xs) (firsts_variables names ns (omega (arith, h)))
    ∙ ap (variable_text names n ∷◌) (filter_variables names n (distinct ns) (omega (arith, h)) (omega (arith, h, bound_distinct ns)))

pub number_variable : (names : List Name) (ns : List ℕ) (k : ℕ) → bound_of ns ≤ 64 → k < 64 → number_of (map (variable_text names) ns) (variable_text names k) ≡ place_in ns k
number_variable names [] k h l = refl
number_variable names (n ∷ ns) k h l = ap₂ (λ v m. cond v 0 (m + 1)) (variable_test names k n l (omega (arith, h)) ∙ eq_turn k n) (number_variable names ns k (omega (arith, h)) l) ∙ go (n == k) refl
  where
    go : (v : Bool) → (n == k) ≡ v → cond (n == k) 0 (place_in ns k + 1) ≡ place_in (n ∷ ns) k
    go true e = rw e refl
    go false e = rw e (omega arith)

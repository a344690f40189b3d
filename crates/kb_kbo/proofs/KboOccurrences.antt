-- How often a number occurs in lists, and sums over lists in which each number occurs no more often.
use Rattle.std.proofs.Common.{ℕ, suc, ◌+◌, ◌≤◌, ◌≡◌, ⊎_elim, refl, sym, ap, subst, arith, List, [], ◌∷◌, ◌++◌, Bool, true, false, cond, ◌==◌, Contains}
use Rattle.std.specs.List.{sum_by}
use Rattle.std.proofs.lemmas.Bool.{cases_eq, cond-true, cond-false, ne_eqb, eq-eqb}
use Rattle.std.proofs.lemmas.List.Elements.{Contains-append_right}
use Rattle.std.proofs.lemmas.List.Sums.{sum_by-cons, sum_by-append}
use Rattle.kb_lemmas.proofs.Membership.{contains_cases, contains_first}
use Rattle.kb_kbo.specs.KnuthBendix.{occurrences}

-- 1 where both are the same, else 0
abbrev pub is_one : ℕ → ℕ → ℕ
is_one x y = cond (y == x) 1 0

pub occurrences-cons : (x y : ℕ) (ys : List ℕ) → occurrences x (y ∷ ys) ≡ is_one x y + occurrences x ys
occurrences-cons x y ys = go (y == x)
  where
    go : (b : Bool) → cond b (suc (occurrences x ys)) (occurrences x ys) ≡ cond b 1 0 + occurrences x ys
    go true = omega arith
    go false = omega arith

pub occurrences-append : (x : ℕ) (xs ys : List ℕ) → occurrences x (xs ++ ys) ≡ occurrences x xs + occurrences x ys
occurrences-append x [] ys = omega arith
occurrences-append x (y ∷ xs) ys = let r = occurrences-append x xs ys in omega (arith, occurrences-cons x y (xs ++ ys), occurrences-cons x y xs)

pub occurs_once : (x y : ℕ) → y ≡ x → is_one x y ≡ 1
occurs_once x y e = cond-true (y == x) 1 0 (eq-eqb y x e)

pub occurs_never : (x y : ℕ) → ¬ (y ≡ x) → is_one x y ≡ 0
occurs_never x y n = cond-false (y == x) 1 0 (ne_eqb y x n)

-- what occurs stands somewhere
pub occurrence_split : (x : ℕ) (ys : List ℕ) → 1 ≤ occurrences x ys → (before : List ℕ) × (after : List ℕ) × (ys ≡ before ++ x ∷ after)
occurrence_split x [] h = absurd (omega arith)
occurrence_split x (y ∷ ys) h =
    ⊎_elim (λ e. ([], ys, ap (λ z. z ∷ ys) e))
    (λ n. let r = occurrence_split x ys (omega (arith, occurrences-cons x y ys, occurs_never x y n)) in (y ∷ r.0, r.1, ap (y ∷◌) r.2))
    (cases_eq y x)

pub contains_from_occurrence : (x : ℕ) (ys : List ℕ) → 1 ≤ occurrences x ys → Contains ys x
contains_from_occurrence x ys h = let r = occurrence_split x ys h in subst (λ z. Contains z x) (sym r.2) (Contains-append_right r.0 (x ∷ r.1) x (contains_first x r.1))

pub occurrence_from_contains : (x : ℕ) (ys : List ℕ) → Contains ys x → 1 ≤ occurrences x ys
occurrence_from_contains x [] c = absurd (omega arith)
occurrence_from_contains x (y ∷ ys) c =
    ⊎_elim (λ e. omega (arith, occurrences-cons x y ys, occurs_once x y e)) (λ d. let r = occurrence_from_contains x ys d in omega (arith, occurrences-cons x y ys)) (contains_cases y ys x c)

-- each number occurs in the first list at least as often as in the second
abbrev pub HoldsAll : List ℕ → List ℕ → Type 0
HoldsAll xs ys = (n : ℕ) → occurrences n ys ≤ occurrences n xs

-- so a sum over the first list is at least that over the second
pub sum-holds : (f : ℕ → ℕ) (xs ys : List ℕ) → HoldsAll xs ys → sum_by f ys ≤ sum_by f xs
sum-holds f xs [] h = omega arith
sum-holds f xs (y ∷ ys) h =
    let r = occurrence_split y xs (omega (arith, h y, occurrences-cons y y ys, occurs_once y y refl)) in
    let rest : HoldsAll (r.0 ++ r.1) ys = λ n.
    let e : occurrences n xs ≡ occurrences n (r.0 ++ y ∷ r.1) = ap (occurrences n) r.2 in
    omega (arith, h n, e, occurrences-cons n y ys, occurrences-append n r.0 (y ∷ r.1), occurrences-cons n y r.1, occurrences-append n r.0 r.1) in
    let q = sum-holds f (r.0 ++ r.1) ys rest in
    let e : sum_by f xs ≡ sum_by f (r.0 ++ y ∷ r.1) = ap (sum_by f) r.2 in
    omega (arith, e, sum_by-cons f y ys, sum_by-append f r.0 (y ∷ r.1), sum_by-cons f y r.1, sum_by-append f r.0 r.1)

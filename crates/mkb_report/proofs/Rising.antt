-- Rising lists of numbers.
use Rattle.std.proofs.Common.{ℕ, suc, ◌+◌, ◌<◌, ◌≤◌, ◌≡◌, refl, sym, ap₂, subst, arith, ⊎_elim, List, [], ◌∷◌, ◌++◌, Contains, AllPairs, length}
use Rattle.std.specs.Prelude.{⊤}
use Rattle.kb_lemmas.proofs.Membership.{contains_cases, contains_first, contains_behind, none_in}

-- each number is below all later ones
abbrev pub Rising : List ℕ → Type 0
Rising [] = ⊤
Rising (x ∷ xs) = ((m : ℕ) → Contains xs m → x < m) × Rising xs

pub rising_from : (xs : List ℕ) → AllPairs (λ m n. m < n) xs → Rising xs
rising_from [] h = tt
rising_from (x ∷ xs) h = (
  λ m c. subst (λ z. x < z) c.2 (h 0 (suc c.0) m (omega arith) (omega (arith, c.1))),
  rising_from xs (λ i j d l p. h (suc i) (suc j) d (omega (arith, l)) (omega (arith, p))),
)

pub rising_behind : (front xs : List ℕ) → Rising (front ++ xs) → Rising xs
rising_behind [] xs h = h
rising_behind (x ∷ front) xs h = rising_behind front xs h.1

-- a rising list of numbers below a bound has no more members than there are numbers from its first one on
few_from : (x : ℕ) (xs : List ℕ) (bound : ℕ) → Rising (x ∷ xs) → ((m : ℕ) → Contains (x ∷ xs) m → m < bound) → length (x ∷ xs) + x ≤ bound
few_from x [] bound h below = omega (arith, below x (contains_first x []))
few_from x (y ∷ ys) bound h below =
    let more = few_from y ys bound h.1 (λ m c. below m (contains_behind x (y ∷ ys) m c)) in
    let less = h.0 y (contains_first y ys) in
    omega (arith, more, less)

pub few_rising : (xs : List ℕ) (bound : ℕ) → Rising xs → ((m : ℕ) → Contains xs m → m < bound) → length xs ≤ bound
few_rising [] bound h below = omega arith
few_rising (x ∷ xs) bound h below = omega (arith, few_from x xs bound h below)

-- two rising lists with the same members are one
pub one_rising : (xs ys : List ℕ) → Rising xs → Rising ys → ((m : ℕ) → Contains xs m → Contains ys m) → ((m : ℕ) → Contains ys m → Contains xs m) → xs ≡ ys
one_rising [] [] h k to back = refl
one_rising [] (y ∷ ys) h k to back = none_in (back y (contains_first y ys))
one_rising (x ∷ xs) [] h k to back = none_in (to x (contains_first x xs))
one_rising (x ∷ xs) (y ∷ ys) h k to back = ap₂ (λ (z : ℕ) (zs : List ℕ). z ∷ zs) same
    (one_rising xs ys h.1 k.1
    (λ m c. ⊎_elim (λ e. absurd (omega (arith, e, same, h.0 m c))) (λ d. d) (contains_cases y ys m (to m (contains_behind x xs m c))))
    (λ m c. ⊎_elim (λ e. absurd (omega (arith, e, same, k.0 m c))) (λ d. d) (contains_cases x xs m (back m (contains_behind y ys m c)))))
  where
    same : x ≡ y
    same = ⊎_elim (λ e. sym e) (λ c. ⊎_elim (λ e. e) (λ d. absurd (omega (arith, k.0 x c, h.0 y d))) (contains_cases x xs y (back y (contains_first y ys)))) (contains_cases y ys x (to x (contains_first x xs)))

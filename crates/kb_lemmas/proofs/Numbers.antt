-- Tests of two numbers, and what their answers say.
use Rattle.std.proofs.Common.{ℕ, true, false, ◌==◌, ◌≡◌, ◌<◌, ◌+◌, ◌⊎◌, inl, inr, ⊎_elim, arith}
use Rattle.std.specs.Prelude.{nat_lt}
use Rattle.std.proofs.lemmas.Bool.{cases_lt}
use Rattle.std.proofs.lemmas.Bool.Decides.{nat_tests}

pub eq_itself : (n : ℕ) → (n == n) ≡ true
eq_itself n = grind (arith, nat_tests)

pub eq_turn : (x y : ℕ) → (x == y) ≡ (y == x)
eq_turn x y = grind arith

pub eq_above : (a b : ℕ) → b < a → (a == b) ≡ false
eq_above a b h = grind (arith, nat_tests)

pub lt_itself : (n : ℕ) → nat_lt n n ≡ false
lt_itself n = grind arith

pub below_or_at : (i n : ℕ) → i < n + 1 → (i < n) ⊎ (i ≡ n)
below_or_at i n h = ⊎_elim inl (λ l. inr (omega (arith, l, h))) (cases_lt i n)

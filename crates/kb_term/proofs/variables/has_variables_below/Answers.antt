use Rattle.std.proofs.Common.{◌≡◌, true, arith, ℕ, ◌≤◌}
use Rattle.std.specs.Prelude.{nat_le}
use Rattle.kb_term.proofs.variables.has_variables_below.Goals as goal

le_from : (m n : ℕ) → nat_le m n ≡ true → m ≤ n
le_from m n e = grind arith

le_to : (m n : ℕ) → m ≤ n → nat_le m n ≡ true
le_to m n h = grind arith

pub returns : goal.returns
returns c = (
  (λ h. (c.variable_bound.ensures c.args.bound).0 (le_from c.variable_bound.result c.args.bound h)),
  (λ h. le_to c.variable_bound.result c.args.bound ((c.variable_bound.ensures c.args.bound).1 h)),
)

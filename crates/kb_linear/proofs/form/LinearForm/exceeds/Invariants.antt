use Rattle.std.proofs.Common.{ℕ, ◌<◌, ◌≤◌, get_or}
use Rattle.kb_linear.proofs.form.LinearForm.exceeds.Given as goal

-- the coefficients so far are not less
abbrev pub invariant-loop-k : goal.invariant-loop-k
invariant-loop-k l = (k : ℕ) → k < l.k → get_or l.other.coefficients k 0 ≤ get_or l.self.coefficients k 0

use Rattle.std.proofs.Common.{ℕ, ◌<◌, ◌≤◌, get_or}
use Rattle.kb_kbo.proofs.order.holds_variables.Given as goal

-- the variables so far occur at least as often on the left
abbrev pub invariant-loop-k : goal.invariant-loop-k
invariant-loop-k l = (n : ℕ) → n < l.k → get_or l.right n 0 ≤ get_or l.left n 0

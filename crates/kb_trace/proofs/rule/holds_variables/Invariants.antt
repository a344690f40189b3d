use Rattle.std.proofs.Common.{ℕ, ◌<◌, Contains}
use Rattle.kb_term.specs.Tree.{variables_of}
use Rattle.kb_term.specs.View.{tree_of}
use Rattle.kb_trace.proofs.rule.holds_variables.Given as goal

-- the variables so far are held
abbrev pub invariant-loop-n : goal.invariant-loop-n
invariant-loop-n l = (m : ℕ) → m < l.n → Contains (variables_of (tree_of l.right)) m → Contains (variables_of (tree_of l.left)) m

use Rattle.std.proofs.Common.{ℕ, ◌<◌, get_or, Contains}
use Rattle.std.specs.Prelude.{map}
use Rattle.kb_term.specs.Tree.{tree_depth, variable, variables_of}
use Rattle.kb_term.specs.View.{tree_of}
use Rattle.kb_trace.proofs.rule.+occurs.Given as goal

abbrev pub decreases-occurs : goal.decreases-occurs
decreases-occurs l = tree_depth (tree_of l.t.now)

-- the variable isn't in the arguments so far
abbrev pub invariant-loop-k : goal.invariant-loop-k
invariant-loop-k l = (j : ℕ) → j < l.k → ¬ Contains (variables_of (get_or (map tree_of l.items) j (variable 0))) l.n

use Rattle.std.proofs.Common.{ℕ, ◌<◌, get_or}
use Rattle.std.specs.Prelude.{map}
use Rattle.kb_term.specs.Tree.{tree_depth, variable}
use Rattle.kb_term.specs.View.{tree_of}
use Rattle.kb_term.specs.FewArguments.{HasFewArguments}
use Rattle.kb_term.proofs.arities.+has_few_arguments.Given as goal

abbrev pub decreases-has_few_arguments : goal.decreases-has_few_arguments
decreases-has_few_arguments l = tree_depth (tree_of l.t.now)

-- each argument so far has few
abbrev pub invariant-loop-k : goal.invariant-loop-k
invariant-loop-k l = (j : ℕ) → j < l.k → HasFewArguments (get_or (map tree_of l.items) j (variable 0))

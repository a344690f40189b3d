use Rattle.std.proofs.Common.{ℕ, ◌<◌, get_or}
use Rattle.std.specs.Prelude.{map}
use Rattle.kb_term.specs.Tree.{tree_depth, variable}
use Rattle.kb_term.specs.View.{tree_of}
use Rattle.kb_rewrite.specs.NormalForm.{Encompasses}
use Rattle.kb_rewrite.proofs.encompassing.+encompasses.Given as goal

abbrev pub decreases-encompasses : goal.decreases-encompasses
decreases-encompasses l = tree_depth (tree_of l.t.now)

-- the pattern matches in none of the arguments so far
abbrev pub invariant-loop-k : goal.invariant-loop-k
invariant-loop-k l = (j : ℕ) → j < l.k → ¬ Encompasses (get_or (map tree_of l.items) j (variable 0)) (tree_of l.pattern)

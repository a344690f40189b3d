use Rattle.std.proofs.Common.{ℕ, ◌<◌, get_or}
use Rattle.std.specs.Prelude.{map}
use Rattle.kb_term.specs.Tree.{tree_depth, variable}
use Rattle.kb_term.specs.View.{tree_of}
use Rattle.kb_rewrite.specs.Search.{IsRootRedex, HasNone}
use Rattle.kb_rewrite.proofs.system.System.+first_below.Given as goal

abbrev pub decreases-first_below : goal.decreases-first_below
decreases-first_below l = tree_depth (tree_of l.t.now)

-- there is no redex in the arguments so far
abbrev pub invariant-loop-k : goal.invariant-loop-k
invariant-loop-k l = (j : ℕ) → j < l.k → HasNone (IsRootRedex l.self l.strict_only (tree_of l.whole)) (get_or (map tree_of l.items) j (variable 0))

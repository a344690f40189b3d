use Rattle.kb_term.specs.Tree.{tree_depth}
use Rattle.kb_term.specs.View.{tree_of}
use Rattle.std.specs.Prelude.{⊤}
use Rattle.kb_unify.proofs.clashing.+clashes.Given as goal

abbrev pub decreases-clashes : goal.decreases-clashes
decreases-clashes l = tree_depth (tree_of l.a.now)

abbrev pub invariant-loop-i : goal.invariant-loop-i
invariant-loop-i l = ⊤

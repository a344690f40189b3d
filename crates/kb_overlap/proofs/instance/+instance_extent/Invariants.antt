use Rattle.std.proofs.Common.{take}
use Rattle.std.specs.Prelude.{map}
use Rattle.kb_term.specs.Tree.{tree_depth, trees_of}
use Rattle.kb_term.specs.Substitution.{instances}
use Rattle.kb_term.specs.View.{tree_of}
use Rattle.kb_unify.specs.Extent.{IsExtentOfAll}
use Rattle.kb_term.specs.Substitution.{substitution_of}
use Rattle.kb_overlap.proofs.instance.+instance_extent.Given as goal

abbrev pub decreases-instance_extent : goal.decreases-instance_extent
decreases-instance_extent l = tree_depth (tree_of l.t.now)

-- the extent of the arguments so far
abbrev pub invariant-loop-k : goal.invariant-loop-k
invariant-loop-k l = IsExtentOfAll l.together (instances (substitution_of l.m) (trees_of (take l.k (map tree_of l.items))))

use Rattle.std.proofs.Common.{◌≡◌, ◌++◌, take}
use Rattle.std.specs.Prelude.{map}
use Rattle.kb_term.specs.Tree.{tree_depth, trees_of}
use Rattle.kb_term.specs.Position.{function_positions_in}
use Rattle.kb_term.specs.View.{tree_of}
use Rattle.kb_overlap.proofs.positions.+push_positions.Given as goal

abbrev pub decreases-push_positions : goal.decreases-push_positions
decreases-push_positions l = tree_depth (tree_of l.t.now)

-- the positions of the arguments so far
abbrev pub invariant-loop-k : goal.invariant-loop-k
invariant-loop-k l = l.found.items ≡ l.initial.found.items ++ map (l.path ++◌) (function_positions_in (trees_of (take l.k (map tree_of l.items))) 1)

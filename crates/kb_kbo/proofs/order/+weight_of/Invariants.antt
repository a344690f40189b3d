use Rattle.std.proofs.Common.{ℕ, List, ◌≡◌, ◌+◌, ◌*◌, ◌≤◌, drop, map}
use Rattle.kb_term.specs.Tree.{tree_size, trees_size, trees_of}
use Rattle.kb_term.specs.View.{tree_of}
use Rattle.kb_kbo.specs.KnuthBendix.{weight, weight_in}
use Rattle.kb_kbo.specs.Measures.{order_of}
use Rattle.kb_kbo.proofs.order.+weight_of.Given as goal

abbrev pub decreases-weight_of : goal.decreases-weight_of
decreases-weight_of l = tree_size (tree_of l.t.now)

-- what is weighed and what is still to be weighed make the whole
abbrev pub invariant-loop-j : goal.invariant-loop-j
invariant-loop-j l =
    ((p : List ℕ) → l.total + weight_in (order_of l.weights p) (trees_of (map tree_of (drop l.j l.items))) ≡ weight (order_of l.weights p) (tree_of l.t))
    × (l.total + 15 * trees_size (trees_of (map tree_of (drop l.j l.items))) ≤ 15 * tree_size (tree_of l.t))

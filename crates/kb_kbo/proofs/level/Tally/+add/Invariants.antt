use Rattle.std.proofs.Common.{◌≡◌, ◌+◌, ◌≤◌, length, drop, map}
use Rattle.kb_term.specs.Tree.{tree_size, trees_size, trees_of}
use Rattle.kb_term.specs.View.{tree_of}
use Rattle.kb_kbo.specs.KnuthBendix.{KboOrder, weight, weight_in, symbol_weight}
use Rattle.kb_kbo.specs.Asking.{value_of}
use Rattle.kb_kbo.proofs.level.Tally.+add.Given as goal

abbrev pub decreases-add : goal.decreases-add
decreases-add l = tree_size (tree_of l.t.now)

-- what is added and what is still to be added make the whole, and there is room for it
abbrev pub invariant-loop-j : goal.invariant-loop-j
invariant-loop-j l = record {
  added : (order : KboOrder) → length order.weights ≤ 8 → value_of l.self (symbol_weight order) + weight_in order (trees_of (map tree_of (drop l.j l.items))) ≡ value_of l.fn.self (symbol_weight order) + weight order (tree_of l.t);
  room : value_of l.self (λ _. 1) + trees_size (trees_of (map tree_of (drop l.j l.items))) ≤ 512;
}

use Rattle.std.proofs.Common.{ℕ, ◌≡◌, ◌+◌, ◌≤◌, ◌<◌, drop, map, get_or, All}
use Rattle.kb_term.specs.Tree.{tree_size, trees_size, trees_of, variables_of, variables_in}
use Rattle.kb_term.specs.View.{tree_of}
use Rattle.kb_kbo.specs.KnuthBendix.{occurrences}
use Rattle.kb_kbo.proofs.order.+count_variables.Given as goal

abbrev pub decreases-count_variables : goal.decreases-count_variables
decreases-count_variables l = tree_size (tree_of l.t.now)

-- what is counted and what is still to be counted make the whole, and there is room for it
abbrev pub invariant-loop-j : goal.invariant-loop-j
invariant-loop-j l = record {
  counted : (n : ℕ) → get_or l.counts n 0 + occurrences n (variables_in (trees_of (map tree_of (drop l.j l.items)))) ≡ get_or l.fn.counts n 0 + occurrences n (variables_of (tree_of l.t));
  room : (n : ℕ) → get_or l.counts n 0 + trees_size (trees_of (map tree_of (drop l.j l.items))) ≤ 512;
  below : All (λ n. n < 64) (variables_in (trees_of (map tree_of (drop l.j l.items))));
}

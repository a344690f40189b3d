use Rattle.std.proofs.Common.{map, ◌+◌, ◌*◌}
use Rattle.kb_term.specs.Tree.{tree_size, trees_size, trees_of}
use Rattle.kb_term.specs.View.{tree_of}
use Rattle.kb_lpo.proofs.open.+verdict_of.Given as goal

abbrev pub decreases-verdict_of : goal.decreases-verdict_of
decreases-verdict_of l = 2 * (tree_size (tree_of l.s.now) + tree_size (tree_of l.t.now))

abbrev pub decreases-verdict_on_each : goal.decreases-verdict_on_each
decreases-verdict_on_each l = 2 * (tree_size (tree_of l.s.now) + trees_size (trees_of (map tree_of l.ts.now))) + 1

abbrev pub decreases-verdict_on_some : goal.decreases-verdict_on_some
decreases-verdict_on_some l = 2 * (trees_size (trees_of (map tree_of l.ss.now)) + tree_size (tree_of l.t.now)) + 1

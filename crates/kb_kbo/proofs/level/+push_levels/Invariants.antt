use Rattle.kb_term.specs.Tree.{tree_size}
use Rattle.kb_term.specs.View.{tree_of}
use Rattle.kb_kbo.proofs.level.+push_levels.Given as goal

abbrev pub decreases-push_levels : goal.decreases-push_levels
decreases-push_levels l = tree_size (tree_of l.s.now)

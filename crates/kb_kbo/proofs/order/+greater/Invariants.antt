use Rattle.kb_term.specs.Tree.{tree_size}
use Rattle.kb_term.specs.View.{tree_of}
use Rattle.kb_kbo.proofs.order.+greater.Given as goal

abbrev pub decreases-greater : goal.decreases-greater
decreases-greater l = tree_size (tree_of l.s.now)

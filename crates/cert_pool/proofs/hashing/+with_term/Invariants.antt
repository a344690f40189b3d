use Rattle.kb_term.specs.Tree.{tree_depth}
use Rattle.kb_term.specs.View.{tree_of}
use Rattle.cert_pool.proofs.hashing.+with_term.Given as goal

abbrev pub decreases-with_term : goal.decreases-with_term
decreases-with_term l = tree_depth (tree_of l.t.now)

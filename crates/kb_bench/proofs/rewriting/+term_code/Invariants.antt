use Rattle.kb_term.specs.Tree.{tree_depth}
use Rattle.kb_term.specs.View.{tree_of}
use Rattle.kb_bench.proofs.rewriting.+term_code.Given as goal

abbrev pub decreases-term_code : goal.decreases-term_code
decreases-term_code l = tree_depth (tree_of l.t.now)

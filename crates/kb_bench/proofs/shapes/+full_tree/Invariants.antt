use Rattle.kb_bench.proofs.shapes.+full_tree.Given as goal

abbrev pub decreases-full_tree : goal.decreases-full_tree
decreases-full_tree l = l.height

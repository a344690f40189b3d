use Rattle.orders_tests.proofs.precedences.+some_term.Given as goal

abbrev pub decreases-some_term : goal.decreases-some_term
decreases-some_term l = l.depth

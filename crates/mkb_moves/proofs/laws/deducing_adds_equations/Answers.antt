use Rattle.mkb_moves.proofs.Added.{deduce_adds, unjoined_adds}
use Rattle.mkb_moves.proofs.laws.deducing_adds_equations.Goals as goal

pub returns-clause-overlaps : goal.returns-clause-overlaps
returns-clause-overlaps c = λ a d ds P n past b w t next run f. deduce_adds P n past b run w t a d ds next f

pub returns-clause-unjoined : goal.returns-clause-unjoined
returns-clause-unjoined c = λ p ds P n past b w t next run f. unjoined_adds P n past b run w t p ds next f

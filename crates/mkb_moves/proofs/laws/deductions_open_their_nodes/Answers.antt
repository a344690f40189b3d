use Rattle.mkb_moves.proofs.OpenedWork.{deduce_opens, unjoined_opens}
use Rattle.mkb_moves.proofs.laws.deductions_open_their_nodes.Goals as goal

pub returns-clause-overlaps : goal.returns-clause-overlaps
returns-clause-overlaps c = λ a d ds P n past b w t next run f. deduce_opens P n past b run w t a d ds next f

pub returns-clause-unjoined : goal.returns-clause-unjoined
returns-clause-unjoined c = λ p ds P n past b w t next run f. unjoined_opens P n past b run w t p ds next f

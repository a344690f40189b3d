use Rattle.mkb_moves.proofs.OpenedWork.{one_leaves, fork_shares}
use Rattle.mkb_moves.proofs.laws.new_rules_leave_other_work.Goals as goal

pub returns-clause-one : goal.returns-clause-one
returns-clause-one c = λ p m d x past b w t next. one_leaves past b w t p m d x next

pub returns-clause-both : goal.returns-clause-both
returns-clause-both c = λ p m c0 c1 P n past b w t next run f. fork_shares P n past b run w t p m c0 c1 next f

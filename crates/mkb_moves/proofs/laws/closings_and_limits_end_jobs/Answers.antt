use Rattle.mkb_moves.proofs.EndedWork.{closing_ends, limit_ends, limit_keeps}
use Rattle.mkb_moves.proofs.laws.closings_and_limits_end_jobs.Goals as goal

pub returns-clause-closed : goal.returns-clause-closed
returns-clause-closed c = λ p past b w t next. closing_ends past b w t p next

pub returns-clause-limits : goal.returns-clause-limits
returns-clause-limits c = λ r P n past b w t next run f. limit_ends P n past b run w t r next f

pub returns-clause-work : goal.returns-clause-work
returns-clause-work c = λ r past b w t next. limit_keeps past b w t r next

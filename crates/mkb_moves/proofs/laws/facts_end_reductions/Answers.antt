use Rattle.mkb_moves.proofs.EndedWork.{facts_open_none, facts_leave_others}
use Rattle.mkb_moves.proofs.laws.facts_end_reductions.Goals as goal

pub returns-clause-opened : goal.returns-clause-opened
returns-clause-opened c = λ fs past b w t next. facts_open_none past b w t fs next

pub returns-clause-others : goal.returns-clause-others
returns-clause-others c = λ fs past b w t next. facts_leave_others past b w t fs next

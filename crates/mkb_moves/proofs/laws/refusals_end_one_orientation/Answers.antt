use Rattle.mkb_moves.proofs.EndedWork.{refusal_ends}
use Rattle.mkb_moves.proofs.laws.refusals_end_one_orientation.Goals as goal

pub returns : goal.returns
returns c = λ p m past b w t next. refusal_ends past b w t p m next

use Rattle.mkb_moves.proofs.RewrittenWork.{rewriting_leaves}
use Rattle.mkb_moves.proofs.laws.rewritings_leave_other_work.Goals as goal

pub returns : goal.returns
returns c = λ m w at a found u P n past b v s next within run. rewriting_leaves P n past b within run v s m w at a found u next

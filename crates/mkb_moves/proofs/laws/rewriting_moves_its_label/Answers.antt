use Rattle.mkb_moves.proofs.Rewriting.{rewriting_moves}
use Rattle.mkb_moves.proofs.laws.rewriting_moves_its_label.Goals as goal

pub returns : goal.returns
returns c = λ m w at a found u P n past b v s next within run. rewriting_moves P n past b within run v s m w at a found u next

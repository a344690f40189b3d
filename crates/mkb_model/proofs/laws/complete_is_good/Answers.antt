use Rattle.mkb_model.proofs.closing.Completed.{good_answer}
use Rattle.mkb_model.proofs.laws.complete_is_good.Goals as goal

pub returns : goal.returns
returns c = λ P n past b within run p. good_answer P n past b p within run

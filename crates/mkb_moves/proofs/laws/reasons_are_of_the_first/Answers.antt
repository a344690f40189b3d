use Rattle.mkb_moves.proofs.FirstOver.{first_gave_up}
use Rattle.mkb_moves.proofs.laws.reasons_are_of_the_first.Goals as goal

pub returns : goal.returns
returns c = λ P n past b run r. first_gave_up P n past b r run

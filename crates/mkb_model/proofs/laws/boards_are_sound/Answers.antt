use Rattle.mkb_model.proofs.runs.AllInvariants.{boards_sound}
use Rattle.mkb_model.proofs.laws.boards_are_sound.Goals as goal

pub returns : goal.returns
returns c = boards_sound

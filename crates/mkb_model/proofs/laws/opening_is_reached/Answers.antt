use Rattle.mkb_model.proofs.runs.Openings.{opening_reached}
use Rattle.mkb_model.proofs.laws.opening_is_reached.Goals as goal

pub returns : goal.returns
returns c = opening_reached

use Rattle.mkb_model.proofs.runs.Selections.{legal-possible}
use Rattle.mkb_model.proofs.laws.legal_runs_are_possible.Goals as goal

pub returns : goal.returns
returns c = legal-possible

use Rattle.mkb_model.proofs.journals.MovesDecide.{taken_one, moves_decide}
use Rattle.mkb_model.proofs.laws.moves_decide_runs.Goals as goal

pub returns-clause-proposals : goal.returns-clause-proposals
returns-clause-proposals c = taken_one

pub returns-clause-runs : goal.returns-clause-runs
returns-clause-runs c = moves_decide

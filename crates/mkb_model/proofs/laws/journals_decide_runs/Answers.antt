use Rattle.mkb_model.proofs.journals.OneRun.{runs_once, after_once}
use Rattle.mkb_model.proofs.laws.journals_decide_runs.Goals as goal

pub returns-clause-runs : goal.returns-clause-runs
returns-clause-runs c = runs_once

pub returns-clause-after : goal.returns-clause-after
returns-clause-after c = after_once

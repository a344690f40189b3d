use Rattle.mkb_model.proofs.runs.AllFine.{commits_fine, runs_complete, runs_one_role}
use Rattle.mkb_model.proofs.laws.runs_complete.Goals as goal

pub returns-clause-fine : goal.returns-clause-fine
returns-clause-fine c = commits_fine

pub returns-clause-one_role : goal.returns-clause-one_role
returns-clause-one_role c = runs_one_role

pub returns-clause-completes : goal.returns-clause-completes
returns-clause-completes c = runs_complete

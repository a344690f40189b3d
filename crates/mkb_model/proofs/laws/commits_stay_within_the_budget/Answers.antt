use Rattle.mkb_model.specs.Journals.{IsFreeJob}
use Rattle.mkb_model.proofs.labels.LivingNames.{within_budget}
use Rattle.mkb_model.proofs.laws.commits_stay_within_the_budget.Goals as goal

pub returns : goal.returns
returns c = within_budget IsFreeJob

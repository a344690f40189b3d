use Rattle.mkb_model.specs.Journals.{IsFreeJob}
use Rattle.mkb_model.proofs.labels.LivingNames.{living_forked}
use Rattle.mkb_model.proofs.laws.living_names_come_of_forks.Goals as goal

pub returns : goal.returns
returns c = living_forked IsFreeJob

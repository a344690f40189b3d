use Rattle.mkb_model.specs.Journals.{IsFreeJob}
use Rattle.mkb_model.proofs.tickets.NoClash.{flight_clear}
use Rattle.mkb_model.proofs.labels.LivingNames.{flight_numbered}
use Rattle.mkb_model.proofs.laws.flight_is_in_order.Goals as goal

pub returns-clause-clear : goal.returns-clause-clear
returns-clause-clear c = flight_clear

pub returns-clause-numbered : goal.returns-clause-numbered
returns-clause-numbered c = flight_numbered IsFreeJob

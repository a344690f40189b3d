use Rattle.mkb_model.proofs.runs.Endings.{some_flies}
use Rattle.mkb_model.proofs.runs.LawsStated.{none_first}
use Rattle.mkb_model.proofs.labels.AtMostSixtyFour.{sleepers_run}
use Rattle.mkb_model.proofs.laws.work_goes_on.Goals as goal

pub returns-clause-free : goal.returns-clause-free
returns-clause-free c = λ P n ms b run. some_flies b (sleepers_run P n ms b run)

pub returns-clause-first : goal.returns-clause-first
returns-clause-first c = λ P n ms b run. none_first b (sleepers_run P n ms b run)

use Rattle.mkb_model.proofs.labels.AtMostSixtyFour.{sleepers_run}
use Rattle.mkb_model.proofs.laws.sixty_four_are_worked_on.Goals as goal

pub returns-clause-few : goal.returns-clause-few
returns-clause-few c = λ P n ms b run. (sleepers_run P n ms b run).few

pub returns-clause-none_waits : goal.returns-clause-none_waits
returns-clause-none_waits c = λ P n ms b run. (sleepers_run P n ms b run).none_waits

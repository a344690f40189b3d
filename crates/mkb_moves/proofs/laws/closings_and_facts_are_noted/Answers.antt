use Rattle.mkb_moves.proofs.Stopped.{closing_noted, facts_noted}
use Rattle.mkb_moves.proofs.laws.closings_and_facts_are_noted.Goals as goal

pub returns-clause-closed : goal.returns-clause-closed
returns-clause-closed c = λ p past b w t next. closing_noted past b w t p next

pub returns-clause-facts : goal.returns-clause-facts
returns-clause-facts c = λ fs past b w t next. facts_noted past b w t fs next

use Rattle.mkb_moves.proofs.Turning.{one_turns, forks, refusal_noted}
use Rattle.mkb_moves.proofs.laws.orienting_makes_rules.Goals as goal

pub returns-clause-one : goal.returns-clause-one
returns-clause-one c = λ p m d x past b w t next. one_turns past b w t p m d x next

pub returns-clause-both : goal.returns-clause-both
returns-clause-both c = λ p m c0 c1 P n past b w t next run f. forks P n past b run w t p m c0 c1 next f

pub returns-clause-refused : goal.returns-clause-refused
returns-clause-refused c = λ p m past b w t next. refusal_noted past b w t p m next

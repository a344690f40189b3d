use Rattle.mkb_moves.proofs.SameCosts.{others_costs, facts_costs, refusal_costs, closing_costs, limit_costs}
use Rattle.mkb_moves.proofs.laws.others_keep_their_cost.Goals as goal

pub returns-clause-others : goal.returns-clause-others
returns-clause-others c = λ e P n past b w t next. others_costs P n past b w t e next

pub returns-clause-facts : goal.returns-clause-facts
returns-clause-facts c = λ fs past b w t next. facts_costs past b w t fs next

pub returns-clause-refused : goal.returns-clause-refused
returns-clause-refused c = λ p n past b w t next. refusal_costs past b w t p n next

pub returns-clause-closed : goal.returns-clause-closed
returns-clause-closed c = λ p past b w t next. closing_costs past b w t p next

pub returns-clause-limits : goal.returns-clause-limits
returns-clause-limits c = λ r past b w t next. limit_costs past b w t r next

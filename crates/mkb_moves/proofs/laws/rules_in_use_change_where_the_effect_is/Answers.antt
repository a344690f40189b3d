use Rattle.mkb_moves.proofs.RulesInUse.{facts_rules, refusal_rules, closing_rules, deduce_rules, unjoined_rules, limit_rules, one_rules, fork_rules, rewriting_rules}
use Rattle.mkb_moves.proofs.laws.rules_in_use_change_where_the_effect_is.Goals as goal

pub returns-clause-facts : goal.returns-clause-facts
returns-clause-facts c = λ fs past b w t next. facts_rules past b w t fs next

pub returns-clause-refused : goal.returns-clause-refused
returns-clause-refused c = λ p n past b w t next. refusal_rules past b w t p n next

pub returns-clause-closed : goal.returns-clause-closed
returns-clause-closed c = λ p past b w t next. closing_rules past b w t p next

pub returns-clause-overlaps : goal.returns-clause-overlaps
returns-clause-overlaps c = λ a d ds past b w t next. deduce_rules past b w t a d ds next

pub returns-clause-unjoined : goal.returns-clause-unjoined
returns-clause-unjoined c = λ p ds past b w t next. unjoined_rules past b w t p ds next

pub returns-clause-limits : goal.returns-clause-limits
returns-clause-limits c = λ r past b w t next. limit_rules past b w t r next

pub returns-clause-one : goal.returns-clause-one
returns-clause-one c = λ p n d x past b w t next. one_rules past b w t p n d x next

pub returns-clause-both : goal.returns-clause-both
returns-clause-both c = λ p n c0 c1 past b w t next. fork_rules past b w t p n c0 c1 next

pub returns-clause-rewritten : goal.returns-clause-rewritten
returns-clause-rewritten c = λ m w at a found u past b v s next. rewriting_rules past b v s m w at a found u next

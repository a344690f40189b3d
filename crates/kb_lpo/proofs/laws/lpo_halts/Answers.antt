use Rattle.kb_lpo.proofs.PathOrderLaws.{lpo_rule, terminating_by_lpo}
use Rattle.kb_lpo.proofs.laws.lpo_halts.Goals as goal

pub returns : goal.returns
returns c = record { rules = lpo_rule; halts = terminating_by_lpo }

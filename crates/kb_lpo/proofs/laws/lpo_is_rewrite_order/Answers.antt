use Rattle.kb_lpo.proofs.PathOrderLaws.{lpo-instance, lpo_at, lpo_step}
use Rattle.kb_lpo.proofs.laws.lpo_is_rewrite_order.Goals as goal

pub returns : goal.returns
returns c = record { substitutions = lpo-instance; contexts = lpo_at; steps = lpo_step }

use Rattle.kb_kbo.proofs.KboLaws.{kbo-instance, kbo_at, kbo_step}
use Rattle.kb_kbo.proofs.laws.kbo_is_rewrite_order.Goals as goal

pub returns : goal.returns
returns c = record { substitutions = kbo-instance; contexts = kbo_at; steps = kbo_step }

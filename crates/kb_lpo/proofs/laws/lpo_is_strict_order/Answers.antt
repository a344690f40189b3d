use Rattle.kb_lpo.proofs.LpoDecides.{lpo_trans, lpo_irreflexive, lpo_decides}
use Rattle.kb_lpo.proofs.laws.lpo_is_strict_order.Goals as goal

pub returns : goal.returns
returns c = record { transitive = lpo_trans; irreflexive = lpo_irreflexive; decided = lpo_decides }

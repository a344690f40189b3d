use Rattle.kb_kbo.proofs.KboCases.{kbo_trans, kbo_irreflexive, kbo_decides}
use Rattle.kb_kbo.proofs.laws.kbo_is_strict_order.Goals as goal

pub returns : goal.returns
returns c = record { transitive = kbo_trans; irreflexive = kbo_irreflexive; decided = kbo_decides }

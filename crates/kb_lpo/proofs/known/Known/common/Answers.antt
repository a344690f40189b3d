use Rattle.std.proofs.Common.{arith, ◌∙◌, length-set}
use Rattle.kb_lpo.proofs.Rows.{common_next}
use Rattle.kb_lpo.proofs.known.Known.common.Goals as goal

pub loop-i-preserved : goal.loop-i-preserved
loop-i-preserved c = (length-set c.loop-i.rows c.loop-i.i _ ∙ c.loop-i.invariant.0, common_next c.loop-i.rows c.args.self.now.rows c.args.other.now.rows c.loop-i.i (omega arith) c.loop-i.invariant.1)

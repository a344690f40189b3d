use Rattle.std.proofs.Common.{◌≡◌, length}
use Rattle.kb_lpo.proofs.Rows.{AreCommon}
use Rattle.kb_lpo.proofs.known.Known.common.Given as goal

abbrev pub invariant-loop-i : goal.invariant-loop-i
invariant-loop-i l = (length l.rows ≡ 24) × AreCommon l.rows l.self.rows l.other.rows l.i

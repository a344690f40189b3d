use Rattle.std.proofs.Common.{◌≡◌, length}
use Rattle.kb_lpo.proofs.Rows.{AreOwn}
use Rattle.kb_lpo.proofs.known.Known.new.Given as goal

abbrev pub invariant-loop-i : goal.invariant-loop-i
invariant-loop-i l = (length l.rows ≡ 24) × AreOwn l.rows

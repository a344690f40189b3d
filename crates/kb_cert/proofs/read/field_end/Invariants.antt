use Rattle.std.proofs.Common.{take}
use Rattle.kb_cert.specs.Reading.{IsFree}
use Rattle.kb_cert.proofs.read.field_end.Given as goal

abbrev pub invariant-loop-i : goal.invariant-loop-i
invariant-loop-i l = IsFree l.b (take l.i l.text)

use Rattle.std.proofs.Common.{take}
use Rattle.kb_text.specs.TermReading.{IsInName}
use Rattle.kb_text.proofs.read.name_length.Given as goal

-- none of the bytes so far ends a name
abbrev pub invariant-loop-i : goal.invariant-loop-i
invariant-loop-i l = IsInName (take l.i l.text)

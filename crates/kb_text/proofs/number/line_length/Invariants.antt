use Rattle.std.proofs.Common.{take}
use Rattle.kb_text.specs.Fields.{IsWithout}
use Rattle.kb_text.proofs.number.line_length.Given as goal

-- no line feed so far
abbrev pub invariant-loop-i : goal.invariant-loop-i
invariant-loop-i l = IsWithout 10 (take l.i l.text)

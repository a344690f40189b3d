use Rattle.std.proofs.Common.{take, ◌≡◌}
use Rattle.std.specs.Str.Parse.{AllDigits, digits_value}
use Rattle.kb_journal.proofs.line_reading.whole_of.Given as goal

-- the digits so far, and their number
abbrev pub invariant-loop-i : goal.invariant-loop-i
invariant-loop-i l = AllDigits 10 (take l.i l.digits) × (l.number ≡ digits_value 10 (take l.i l.digits))

use Rattle.std.proofs.Common.{◌≡◌, map, take}
use Rattle.kb_report.specs.Summaries.{bit_digit}
use Rattle.kb_report.proofs.summary.process_text.Given as goal

abbrev pub invariant-loop-i : goal.invariant-loop-i
invariant-loop-i l = l.text.items ≡ map bit_digit (take l.i l.process)

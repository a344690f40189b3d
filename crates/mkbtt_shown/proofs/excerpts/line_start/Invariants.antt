use Rattle.std.proofs.Common.{◌≡◌, ◌+◌, drop}
use Rattle.mkbtt_shown.specs.Excerpts.{length_of_lines, line_start}
use Rattle.mkbtt_shown.proofs.excerpts.line_start.Given as goal

abbrev pub invariant-loop-i : goal.invariant-loop-i
invariant-loop-i l = l.i + length_of_lines (drop l.i l.text) l.before ≡ line_start l.text l.number

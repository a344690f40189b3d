use Rattle.std.proofs.Common.{◌≡◌, take}
use Rattle.kb_linear.specs.Limits.{interpretation_of}
use Rattle.kb_linear.specs.Numbers.{numbers_of}
use Rattle.kb_linear.proofs.numbers.numbers.Given as goal

abbrev pub invariant-loop-row : goal.invariant-loop-row
invariant-loop-row l = l.list.items ≡ numbers_of (interpretation_of (take l.row-index l.rows))

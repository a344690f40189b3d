use Rattle.std.proofs.Common.{◌≡◌, ◌+◌}
use Rattle.kb_linear.specs.Limits.{interpretation_of}
use Rattle.kb_linear.proofs.Places.{offset}
use Rattle.kb_linear.proofs.numbers.set_number.Given as goal

-- nothing is written yet, and so many numbers are left behind those of the rows so far
abbrev pub invariant-loop-f : goal.invariant-loop-f
invariant-loop-f l = (l.rows.items ≡ l.initial.rows.items) × (offset (interpretation_of l.rows.items) l.f + l.left ≡ l.k)

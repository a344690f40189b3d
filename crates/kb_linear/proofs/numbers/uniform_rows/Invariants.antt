use Rattle.std.proofs.Common.{◌≡◌, take}
use Rattle.std.specs.Prelude.{replicate}
use Rattle.kb_linear.specs.Limits.{interpretation_of}
use Rattle.kb_linear.specs.Numbers.{uniform}
use Rattle.kb_linear.proofs.numbers.uniform_rows.Given as goal

abbrev pub invariant-loop : goal.invariant-loop
invariant-loop l = l.coefficients.items ≡ replicate l.counter l.coefficient

abbrev pub invariant-loop-f : goal.invariant-loop-f
invariant-loop-f l = interpretation_of l.rows.items ≡ uniform (take l.f l.sig) l.constant l.coefficient

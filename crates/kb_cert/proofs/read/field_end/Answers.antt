use Rattle.std.proofs.Common.{arith, subst, length, take, ◌≡◌}
use Rattle.kb_cert.specs.Reading.{IsFree}
use Rattle.kb_cert.proofs.Fields.{at_end_nothing}
use Rattle.kb_cert.proofs.read.field_end.Goals as goal

pub returns-clause-end : goal.returns-clause-end
returns-clause-end c = record {
  free = let e : c.loop-i.i ≡ length c.args.text.now = omega arith in subst (λ k. IsFree c.args.b (take k c.args.text.now)) e c.loop-i.invariant;
  at_end = at_end_nothing c.args.b c.args.text.now;
}

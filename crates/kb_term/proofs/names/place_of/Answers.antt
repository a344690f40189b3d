use Rattle.std.proofs.Common.{arith, length}
use Rattle.kb_term.proofs.Numbered.{place_in_is}
use Rattle.kb_term.proofs.names.place_of.Goals as goal

pub returns-then-names-i-clause-place : goal.returns-then-names-i-clause-place
returns-then-names-i-clause-place c = place_in_is c.args.names.now c.args.n c.loop-i.i (omega arith) c.loop-i.invariant (λ h. c.if-names-i.true)

pub returns-clause-place : goal.returns-clause-place
returns-clause-place c =
    place_in_is c.args.names.now c.args.n (length c.args.names.now) (omega arith) (λ k h. c.loop-i.invariant k (omega (arith, h, c.loop-i-test.false))) (λ h. absurd (omega (arith, h)))

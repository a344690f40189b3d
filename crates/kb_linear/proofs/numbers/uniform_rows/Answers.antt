use Rattle.std.proofs.Common.{arith, ap, ◌∙◌, ◌≡◌}
use Rattle.std.specs.Prelude.{replicate}
use Rattle.kb_linear.proofs.Places.{uniform_more}
use Rattle.kb_linear.proofs.numbers.uniform_rows.Goals as goal

pub loop-f-preserved : goal.loop-f-preserved
loop-f-preserved c =
    uniform_more c.loop-f.rows.items c.push-in-loop-f.new.self.items c.args.sig.now c.loop-f.f c.arity-arity.result c.args.constant c.args.coefficient c.loop.coefficients
    c.in_ok-push-2.ensures.items c.arity-arity.ensures (c.loop.invariant ∙ ap (λ n. replicate n c.args.coefficient) (let e : c.loop.counter ≡ c.arity-arity.result = omega arith in e)) c.loop-f.invariant

use Rattle.kb_match.proofs.Extensions.{present_at, absent_more, absent_free}
use Rattle.kb_match.proofs.matcher.find.Goals as goal
use Rattle.kb_match.proofs.matcher.find.Goals.{in-Some+else-m-n, in_default}

pub returns-then-m-n : goal.returns-then-m-n
returns-then-m-n c = present_at c.args.bindings.now c.loop-binding.binding-index c.args.n c.in-Some.m c.in-Some.t c.binding-item.result c.loop-binding-test.true c.binding-item.is c.in-Some.is c.if-m-n.true c.loop-binding.invariant

pub loop-binding-preserved : goal.loop-binding-preserved
loop-binding-preserved c =
    let es = c.args.bindings.now in
    let i = c.loop-binding.binding-index in
    elim c.match-binding.branch [
      | in-Some+else-m-n w ↦ absent_more es i c.args.n w.in-Some.m w.in-Some.t c.binding-item.result c.loop-binding-test.true c.binding-item.is w.in-Some.is w.if-m-n.false c.loop-binding.invariant
      | in_default w ↦ absent_free es i c.args.n c.binding-item.result c.loop-binding-test.true c.binding-item.is w.in_default.is c.loop-binding.invariant
    ]

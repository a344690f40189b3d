use Rattle.std.proofs.Common.{arith}
use Rattle.kb_lpo.proofs.Answering.{member_size, part_smaller}
use Rattle.kb_lpo.proofs.open.+verdict_of.Goals as goal

pub verdict_of-verdict_of-requires : goal.verdict_of-verdict_of-requires
verdict_of-verdict_of-requires t c =
    let a = part_smaller c.args.s.now c.in-App-App.f c.in-App-App.front c.items-ss.result.now c.agreement-n.result c.index-ss-n.result c.in-App-App.is-0 c.items-ss.ensures (grind arith) c.index-ss-n.is in
    let b = part_smaller c.args.t.now c.in-App-App.g c.in-App-App.back c.items-ts.result.now c.agreement-n.result c.index-ts-n.result c.in-App-App.is-1 c.items-ts.ensures (grind arith) c.index-ts-n.is in
    (omega (arith, c.decreases, a, b), tt)

pub verdict_on_each-verdict_of-requires : goal.verdict_on_each-verdict_of-requires
verdict_on_each-verdict_of-requires t c =
    let a = member_size c.args.ts.now c.loop-j.j c.index-ts-j.result (grind arith) c.index-ts-j.is in
    (omega (arith, c.decreases, a), tt)

pub verdict_on_some-verdict_of-requires : goal.verdict_on_some-verdict_of-requires
verdict_on_some-verdict_of-requires t c =
    let a = member_size c.args.ss.now c.loop-k.k c.index-ss-k-in-loop-k.result (grind arith) c.index-ss-k-in-loop-k.is in
    (omega (arith, c.decreases, a), tt)

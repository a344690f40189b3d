use Rattle.std.proofs.Common.{arith}
use Rattle.cert_pool.proofs.Deciding.{one_more}
use Rattle.cert_pool.proofs.comparing.are_among.Goals as goal

pub loop-i-preserved : goal.loop-i-preserved
loop-i-preserved c = one_more c.args.some.now c.args.rules.now c.loop-i.i c.index-some-i.result c.loop-i-test.true c.index-some-i.is (rw c.in-Some.is at c.place_from.ensures.found) c.loop-i.invariant

pub returns : goal.returns
returns c _ k d l = c.loop-i.invariant k d (let t = c.loop-i-test.false in omega (arith, l, t))

use Rattle.std.proofs.Common.{arith}
use Rattle.kb_kbo.proofs.Levels.{asked_cons}
use Rattle.kb_kbo.proofs.needs.demand_of.Goals as goal

pub returns-in-Some : goal.returns-in-Some
returns-in-Some c = λ order b a. c.in-Some.ensures order _ b (asked_cons order c.args.levels.now c.loop-i.i _ (omega arith) (c.loop-i.invariant order b a))

pub loop-i-preserved : goal.loop-i-preserved
loop-i-preserved c = λ order b a. c.in_default.ensures order _ b (asked_cons order c.args.levels.now c.loop-i.i _ (omega arith) (c.loop-i.invariant order b a))

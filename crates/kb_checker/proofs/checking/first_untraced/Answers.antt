use Rattle.std.proofs.Common.{arith}
use Rattle.kb_checker.specs.Answers.{IsTraced}
use Rattle.kb_checker.proofs.Firsts.{good_more, good_all, fails_first}
use Rattle.kb_checker.proofs.checking.first_untraced.Goals as goal

pub returns-then-not-branch : goal.returns-then-not-branch
returns-then-not-branch c =
    let traced = IsTraced c.args.trace.now in
    fails_first traced (λ r. traced r → ⊥) c.args.rules.now c.loop-k.k c.index-rules-k.result c.loop-k-test.true c.index-rules-k.is c.loop-k.invariant
    (λ h. let t = c.in_ok-is_traced.ensures.1 h in absurd (grind (arith, t, c.if-not-branch.true)))

pub loop-k-preserved : goal.loop-k-preserved
loop-k-preserved c =
    good_more (IsTraced c.args.trace.now) c.args.rules.now c.loop-k.k c.index-rules-k.result c.loop-k-test.true c.index-rules-k.is (c.in_ok-is_traced.ensures.0 (grind (arith, c.if-not-branch.false))) c.loop-k.invariant

pub returns : goal.returns
returns c = good_all (IsTraced c.args.trace.now) c.args.rules.now c.loop-k.k c.loop-k-test.false c.loop-k.invariant

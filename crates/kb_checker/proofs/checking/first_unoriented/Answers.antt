use Rattle.std.proofs.Common.{sym, subst, arith}
use Rattle.kb_linear.specs.Limits.{AreMeasurable}
use Rattle.kb_cert.specs.Family.{Orders}
use Rattle.kb_checker.specs.Answers.{IsOriented}
use Rattle.kb_checker.proofs.Ready.{measurable_at}
use Rattle.kb_checker.proofs.Firsts.{good_more, good_all, fails_first}
use Rattle.kb_checker.proofs.checking.first_unoriented.Goals as goal

pub orients-requires : goal.orients-requires
orients-requires c =
    subst AreMeasurable (sym c.from_ref.ensures.value) (measurable_at c.args.rules.now c.loop-k.k c.index-rules-k.result c.loop-k-test.true c.index-rules-k.is c.requires)

pub returns-then-not-orients : goal.returns-then-not-orients
returns-then-not-orients c =
    let oriented = IsOriented c.args.cert.now in
    fails_first oriented (λ r. oriented r → ⊥) c.args.rules.now c.loop-k.k c.index-rules-k.result c.loop-k-test.true c.index-rules-k.is c.loop-k.invariant
    (λ h. let holds = c.orients.ensures.1 (subst (Orders c.args.cert.now) (sym c.from_ref.ensures.value) h) in absurd (grind (arith, holds, c.if-not-orients.true)))

pub loop-k-preserved : goal.loop-k-preserved
loop-k-preserved c =
    good_more (IsOriented c.args.cert.now) c.args.rules.now c.loop-k.k c.index-rules-k.result c.loop-k-test.true c.index-rules-k.is
    (subst (Orders c.args.cert.now) c.from_ref.ensures.value (c.orients.ensures.0 (grind (arith, c.if-not-orients.false)))) c.loop-k.invariant

pub returns : goal.returns
returns c = good_all (IsOriented c.args.cert.now) c.args.rules.now c.loop-k.k c.loop-k-test.false c.loop-k.invariant

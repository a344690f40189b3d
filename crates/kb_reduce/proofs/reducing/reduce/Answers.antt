use Rattle.std.proofs.Common.{ℕ, ◌+◌, ◌∙◌, sym, ap, subst, arith, length, take}
use Rattle.kb_term.specs.Rule.{Rule}
use Rattle.kb_checker.specs.Answers.{Answer, IsGoodAnswer}
use Rattle.kb_checker.specs.Verdicts.{IsVerdict}
use Rattle.kb_reduce.specs.Reducing.{AreComposed, IsReducedSystem, IsReduced}
use Rattle.kb_reduce.proofs.Whole.{passed, too_long, steps_on, answer_whole, good_whole, system_whole, reduced_whole, same_answer}
use Rattle.kb_reduce.proofs.reducing.reduce.Goals as goal

pub returns-in-Passed-clause-reduction : goal.returns-in-Passed-clause-reduction
returns-in-Passed-clause-reduction c = (
  subst (IsVerdict c.args.a.now) c.in_default.is c.in_ok-reason.ensures.verdict,
  passed c.args.a.now c.loop-k.k (omega (arith, c.loop-k-test.true, ap (length {A = Rule × ℕ}) c.rules-k-end.ensures)) c.loop-k.invariant.more c.loop-k.rules.items c.loop-k.invariant.composed c.loop-k.steps.items c.compose.new.steps.items c.loop-k.invariant.steps c.loop-k.invariant.room c.in_ok-rule.field-0 c.in-Passed.why c.in_ok-rule.ensures c.in-Passed.is,
)

pub returns-then-len-gt-MAX_TRACE-clause-reduction : goal.returns-then-len-gt-MAX_TRACE-clause-reduction
returns-then-len-gt-MAX_TRACE-clause-reduction c = (
  subst (IsVerdict c.args.a.now) c.in_default.is c.in_ok-reason.ensures.verdict,
  too_long c.args.a.now c.loop-k.k (omega (arith, c.loop-k-test.true, ap (length {A = Rule × ℕ}) c.rules-k-end.ensures)) c.loop-k.invariant.more c.loop-k.rules.items c.loop-k.invariant.composed c.loop-k.steps.items c.compose.new.steps.items c.loop-k.invariant.steps c.loop-k.invariant.room c.in_ok-rule.field-0 c.in-Rule.rule c.in-Rule.cited c.in_ok-rule.ensures c.in-Rule.is (omega (arith, c.if-len-gt-MAX_TRACE.true, c.len.ensures)),
)

pub loop-k-preserved : goal.loop-k-preserved
loop-k-preserved c =
    let on = steps_on c.args.a.now c.loop-k.k (omega (arith, c.loop-k-test.true, ap (length {A = Rule × ℕ}) c.rules-k-end.ensures)) c.loop-k.invariant.more c.loop-k.rules.items c.loop-k.invariant.composed c.loop-k.steps.items c.compose.new.steps.items c.loop-k.invariant.steps c.loop-k.invariant.room c.in_ok-rule.field-0 c.in-Rule.rule c.in-Rule.cited c.in_ok-rule.ensures c.in-Rule.is in
    record {
      more = on.0;
      steps = on.1;
      composed = subst (AreComposed c.args.a.now.rules (length c.args.a.now.trace) (take (c.loop-k.k + 1) c.args.a.now.rules) on.0) (sym c.in_ok-push-in-Rule.ensures.items) on.2;
      room = omega (arith, c.if-len-gt-MAX_TRACE.false, c.len.ensures);
    }

pub with_rules-requires : goal.with_rules-requires
with_rules-requires c = answer_whole c.args.a.now c.loop-k.k (omega (arith, c.loop-k-test.false, ap (length {A = Rule × ℕ}) c.rules-k-end.ensures)) c.loop-k.invariant.more c.loop-k.rules.items c.loop-k.invariant.composed c.loop-k.steps.items c.new.result c.loop-k.invariant.steps c.loop-k.invariant.room c.new.ensures c.thin.new.rules.items c.in_ok-thin.ensures c.has_form.ensures (c.in_ok-reason.ensures.good c.in_default.is)

pub returns-clause-good : goal.returns-clause-good
returns-clause-good c b e =
    let whole = good_whole c.args.a.now c.loop-k.k (omega (arith, c.loop-k-test.false, ap (length {A = Rule × ℕ}) c.rules-k-end.ensures)) c.loop-k.invariant.more c.loop-k.rules.items c.loop-k.invariant.composed c.loop-k.steps.items c.new.result c.loop-k.invariant.steps c.loop-k.invariant.room c.new.ensures c.thin.new.rules.items c.in_ok-thin.ensures c.has_form.ensures (c.in_ok-reason.ensures.good c.in_default.is) in
    subst IsGoodAnswer (sym c.in_ok-with_rules.ensures ∙ same_answer c.in_ok-with_rules.field-0 b e) whole

pub returns-clause-reduced : goal.returns-clause-reduced
returns-clause-reduced c b e =
    let whole = system_whole c.args.a.now c.loop-k.k (omega (arith, c.loop-k-test.false, ap (length {A = Rule × ℕ}) c.rules-k-end.ensures)) c.loop-k.invariant.more c.loop-k.rules.items c.loop-k.invariant.composed c.loop-k.steps.items c.new.result c.loop-k.invariant.steps c.loop-k.invariant.room c.new.ensures c.thin.new.rules.items c.in_ok-thin.ensures c.has_form.ensures (c.in_ok-reason.ensures.good c.in_default.is) in
    subst IsReducedSystem (ap (λ (x : Answer). x.rules) (sym c.in_ok-with_rules.ensures ∙ same_answer c.in_ok-with_rules.field-0 b e)) whole

pub returns-clause-reduction : goal.returns-clause-reduction
returns-clause-reduction c = (
  subst (IsVerdict c.args.a.now) c.in_default.is c.in_ok-reason.ensures.verdict,
  subst (IsReduced c.args.a.now) (sym c.in_ok-with_rules.ensures) (reduced_whole c.args.a.now c.loop-k.k (omega (arith, c.loop-k-test.false, ap (length {A = Rule × ℕ}) c.rules-k-end.ensures)) c.loop-k.invariant.more c.loop-k.rules.items c.loop-k.invariant.composed c.loop-k.steps.items c.new.result c.loop-k.invariant.steps c.loop-k.invariant.room c.new.ensures c.thin.new.rules.items c.in_ok-thin.ensures),
)

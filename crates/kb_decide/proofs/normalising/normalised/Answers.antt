use Rattle.std.proofs.Common.{arith, subst, sym, Ok, Err, List}
use Rattle.kb_term.specs.Rule.{Rule}
use Rattle.kb_term.specs.declared.fault.TermFault.TheVariants.{Large}
use Rattle.kb_term.specs.View.{tree_of}
use Rattle.kb_rewrite.specs.Search.{IsStepAnswer}
use Rattle.kb_decide.specs.Deciding.{IsLimitReason, IsStrategyStepBy, LeadsBy}
use Rattle.kb_decide.proofs.Lines.{few_over, form_made, keeps_over, leads_more, rule_below, stopped_large, stopped_long, strategy_made}
use Rattle.kb_decide.proofs.normalising.normalised.Goals as goal

pub first_redex-requires-clause-few_arguments : goal.first_redex-requires-clause-few_arguments
first_redex-requires-clause-few_arguments c = few_over c.args.system.now (tree_of c.loop.term) c.loop.invariant.over

pub first_redex-requires-2-clause-few_arguments : goal.first_redex-requires-2-clause-few_arguments
first_redex-requires-2-clause-few_arguments c = few_over c.args.system.now (tree_of c.loop.term) c.loop.invariant.over

pub returns-in_default : goal.returns-in_default
returns-in_default c = form_made c.args.system.now c.loop.lines.items (tree_of c.args.t.now) (tree_of c.loop.term) c.in_ok-redex.field-0 c.loop.invariant.leads (omega (arith, c.loop.invariant.count, c.loop-test.true)) c.in_ok-redex.ensures c.in_default.is

pub returns-in-Err-Large : goal.returns-in-Err-Large
returns-in-Err-Large c = stopped_large c.args.system.now c.loop.lines.items (tree_of c.args.t.now) (tree_of c.loop.term) c.in_ok-redex.field-0 c.in-Some.redex c.in-Err-Large.limit c.reason_of.result c.loop.invariant.leads (omega (arith, c.loop.invariant.count, c.loop-test.true)) c.in_ok-redex.ensures c.in-Some.is (subst (λ (rs : List Rule). IsStepAnswer rs (tree_of c.loop.term) c.in-Some.redex.position c.in-Some.redex.rule (Err (Large c.in-Err-Large.limit))) c.rules.ensures (subst (λ f. IsStepAnswer c.rules.result.now (tree_of c.loop.term) c.in-Some.redex.position c.in-Some.redex.rule (Err f)) c.in-Err-Large.field-0-is c.in-Err-Large.ensures)) (subst (λ l. IsLimitReason l c.reason_of.result) c.in-Err-Large.limit-is c.reason_of.ensures)

pub line_of-requires : goal.line_of-requires
line_of-requires c = omega (arith, rule_below c.args.system.now (tree_of c.loop.term) c.in_ok-redex.field-0 c.in-Some.redex c.in_ok-redex.ensures c.in-Some.is, c.requires.few)

pub loop-preserved : goal.loop-preserved
loop-preserved c =
    let rules = c.args.system.now in
    let s = tree_of c.loop.term in
    let line = c.line_of.result in
    let step = strategy_made rules s c.in_ok-redex.field-0 c.in-Some.redex line c.in-Ok.next c.in_ok-redex.ensures c.in-Some.is (subst (λ (rs : List Rule). IsStepAnswer rs s c.in-Some.redex.position c.in-Some.redex.rule (Ok c.in-Ok.next)) c.rules.ensures c.in-Ok.ensures) c.line_of.ensures.position c.line_of.ensures.rule in
    record {
      over = keeps_over rules line s (tree_of c.in-Ok.next) c.loop.invariant.over step.0;
      leads = subst (λ lines. LeadsBy (IsStrategyStepBy rules) lines (tree_of c.args.t.now) (tree_of c.in-Ok.next)) (sym c.in_ok-push.ensures.items) (leads_more (IsStrategyStepBy rules) c.loop.lines.items line (tree_of c.args.t.now) s (tree_of c.in-Ok.next) c.loop.invariant.leads step.0 step.1);
      count = omega (arith, c.loop.invariant.count, c.in_ok-push.ensures.len);
    }

pub returns-in-None : goal.returns-in-None
returns-in-None c = form_made c.args.system.now c.loop.lines.items (tree_of c.args.t.now) (tree_of c.loop.term) c.in_ok-first_redex.field-0 c.loop.invariant.leads (omega (arith, c.loop.invariant.count, c.loop-test.false, c.loop.auto.counter-end)) c.in_ok-first_redex.ensures c.in-None.is

pub returns-in-Some-2 : goal.returns-in-Some-2
returns-in-Some-2 c = stopped_long c.args.system.now c.loop.lines.items (tree_of c.args.t.now) (tree_of c.loop.term) c.in_ok-first_redex.field-0 c.in-Some-2.field-0 c.loop.invariant.leads (omega (arith, c.loop.invariant.count, c.loop-test.false, c.loop.auto.counter-end)) c.in_ok-first_redex.ensures c.in-Some-2.is

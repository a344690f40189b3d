use Rattle.std.proofs.Common.{refl, subst}
use Rattle.kb_term.specs.View.{tree_of}
use Rattle.kb_rewrite.specs.NormalForm.{IsFound}
use Rattle.kb_reduce.proofs.Covering.{found_encompasses, redex_at, no_redex_more}
use Rattle.kb_reduce.proofs.thinning.has_redex.Goals as goal

pub loop-rule-preserved : goal.loop-rule-preserved
loop-rule-preserved c =
    let not = subst (IsFound (tree_of c.args.t.now) c.rule-item.result.0) c.in-No.is c.in_ok-found.ensures in
    no_redex_more c.args.rules.now c.loop-rule.rule-index c.rule-item.result (tree_of c.args.t.now) c.loop-rule-test.true c.rule-item.is c.loop-rule.invariant not

pub returns-in-Variant : goal.returns-in-Variant
returns-in-Variant c =
    let t = tree_of c.args.t.now in
    (λ _. redex_at c.args.rules.now c.loop-rule.rule-index c.rule-item.result t c.loop-rule-test.true c.rule-item.is (found_encompasses t c.rule-item.result.0 c.in_ok-found.field-0 c.in_ok-found.ensures c.in-Variant.is), λ _. refl)

use Rattle.std.proofs.Common.{◌≡◌, subst, sym, Bool, Some, None, arith}
use Rattle.std.specs.Prelude.{IsTrue, ◌↔◌}
use Rattle.std.proofs.lemmas.Result.{IfOk-weaker}
use Rattle.kb_term.specs.Pair.{canonical_pair}
use Rattle.kb_term.specs.Rule.{IsRule}
use Rattle.kb_term.specs.View.{tree_of}
use Rattle.kb_overlap.specs.Trace.{other_side, IsRightRewrite}
use Rattle.kb_trace.specs.Steps.{IsRewritten}
use Rattle.kb_trace.proofs.Deciding.{rewrite_not, rewrite_decided}
use Rattle.kb_trace.proofs.right.is_right_rewrite.Goals as goal

pub returns-in-None : goal.returns-in-None
returns-in-None c = (
  λ e. absurd (cc),
  λ h. absurd (rewrite_not c.args.old.now c.args.w c.args.position.now c.args.rule.now c.args.pair.now c.requires (subst (λ t. IsRewritten c.args.rule.now c.args.position.now t None) c.side_of.ensures (subst (IsRewritten c.args.rule.now c.args.position.now (tree_of c.side_of.result.now)) c.in-None.is c.in_ok-rewritten.ensures)) h),
)

pub returns-in-Some : goal.returns-in-Some
returns-in-Some c =
    let rule = c.args.rule.now in
    let p = c.args.position.now in
    let old = c.args.old.now in
    let w = c.args.w in
    let pair = c.args.pair.now in
    let u = c.in-Some.result in
    let r : IsRule rule = c.if-not-is_rule.ensures.0 (grind (arith, c.if-not-is_rule.false)) in
    let made = subst (λ t. IsRewritten rule p t (Some u)) c.side_of.ensures (subst (IsRewritten rule p (tree_of c.side_of.result.now)) c.in-Some.is c.in_ok-rewritten.ensures) in
    IfOk-weaker c.is_canonical_pair.result
    (λ (b : Bool). IsTrue b ↔ (canonical_pair (tree_of u) (tree_of c.other_side_of.result.now) ≡ Some pair))
    (λ (b : Bool). IsTrue b ↔ IsRightRewrite old w p rule pair)
    (λ b h. rewrite_decided old w p rule pair u b r made (subst (λ t. IsTrue b ↔ (canonical_pair (tree_of u) t ≡ Some pair)) c.other_side_of.ensures h))
    c.is_canonical_pair.ensures

use Rattle.std.proofs.Common.{◌≡◌, subst, sym, Bool, Some, None, arith}
use Rattle.std.specs.Prelude.{IsTrue, ◌↔◌}
use Rattle.std.proofs.lemmas.Result.{IfOk-weaker}
use Rattle.kb_term.specs.Pair.{canonical_pair}
use Rattle.kb_term.specs.Rule.{IsRule}
use Rattle.kb_term.specs.View.{tree_of}
use Rattle.kb_overlap.specs.Trace.{IsRightOverlap}
use Rattle.kb_trace.specs.Steps.{IsOverlapped}
use Rattle.kb_trace.proofs.Deciding.{overlap_not, overlap_decided}
use Rattle.kb_trace.proofs.right.is_right_overlap.Goals as goal

pub returns-in-None : goal.returns-in-None
returns-in-None c = (
  λ e. absurd (cc),
  λ h. absurd (overlap_not c.args.outer.now c.args.inner.now c.args.position.now c.args.pair.now (subst (IsOverlapped c.args.outer.now c.args.inner.now c.args.position.now) c.in-None.is c.in_ok-overlapped.ensures) h),
)

pub returns-in-Some : goal.returns-in-Some
returns-in-Some c =
    let outer = c.args.outer.now in
    let inner = c.args.inner.now in
    let p = c.args.position.now in
    let pair = c.args.pair.now in
    let s = c.in-Some.s in
    let t = c.in-Some.t in
    let one : IsRule outer = c.if-not-is_rule.ensures.0 (grind (arith, c.if-not-is_rule.false)) in
    let other : IsRule inner = c.if-not-is_rule-2.ensures.0 (grind (arith, c.if-not-is_rule-2.false)) in
    let made : IsOverlapped outer inner p (Some (s, t)) = subst (IsOverlapped outer inner p) c.in-Some.is c.in_ok-overlapped.ensures in
    IfOk-weaker c.is_canonical_pair.result
    (λ (b : Bool). IsTrue b ↔ (canonical_pair (tree_of s) (tree_of t) ≡ Some pair))
    (λ (b : Bool). IsTrue b ↔ IsRightOverlap outer inner p pair)
    (λ b h. overlap_decided outer inner p pair s t b one other made h)
    c.is_canonical_pair.ensures

use Rattle.std.proofs.Common.{◌≡◌, subst, sym, Bool, Some}
use Rattle.std.specs.Prelude.{IsTrue, ◌↔◌}
use Rattle.std.proofs.lemmas.Result.{IfOk-weaker}
use Rattle.kb_term.specs.View.{equations_of_list}
use Rattle.kb_overlap.specs.Trace.{item, IsRightInput, IsRightRewrite, IsRightOverlap, FollowsBy}
use Rattle.kb_trace.specs.Steps.{IsCitedRule}
use Rattle.kb_trace.proofs.Deciding.{cited_below, rewrite_origin, overlap_origin}
use Rattle.kb_trace.proofs.right.follows.Goals as goal

pub returns-in-Input : goal.returns-in-Input
returns-in-Input c =
    let es = equations_of_list c.args.equations.now in
    let earlier = item c.args.earlier.now in
    let pair = c.args.pair.now in
    IfOk-weaker c.is_right_input.result
    (λ (b : Bool). IsTrue b ↔ IsRightInput es c.in-Input.i pair)
    (λ (b : Bool). IsTrue b ↔ FollowsBy es earlier c.args.origin.now pair)
    (λ b h. subst (λ o. IsTrue b ↔ FollowsBy es earlier o pair) (sym c.in-Input.is) h)
    c.is_right_input.ensures

pub returns-in-Some-2 : goal.returns-in-Some-2
returns-in-Some-2 c =
    let es = equations_of_list c.args.equations.now in
    let earlier = item c.args.earlier.now in
    let pair = c.args.pair.now in
    let o = c.in-Rewrite in
    let rule = c.in-Some-2.by in
    let at : earlier o.node ≡ Some c.in-Some.old.now = sym c.in-Some.ensures in
    let cited : IsCitedRule (earlier o.rule.node) o.rule.dir (Some rule) = subst (IsCitedRule (earlier o.rule.node) o.rule.dir) c.in-Some-2.is c.in_ok-by-in-Rewrite.ensures in
    IfOk-weaker c.is_right_rewrite.result
    (λ (b : Bool). IsTrue b ↔ IsRightRewrite c.in-Some.old.now o.side o.position rule pair)
    (λ (b : Bool). IsTrue b ↔ FollowsBy es earlier c.args.origin.now pair)
    (λ b h. subst (λ x. IsTrue b ↔ FollowsBy es earlier x pair) (sym o.is) (rewrite_origin es earlier o.node o.side o.position o.rule pair c.in-Some.old.now rule b at cited h))
    c.is_right_rewrite.ensures

pub is_right_overlap-requires-clause-outer_variables : goal.is_right_overlap-requires-clause-outer_variables
is_right_overlap-requires-clause-outer_variables c =
    let cited = item c.args.earlier.now c.in-Overlap.outer.node in
    cited_below cited c.in-Overlap.outer.dir c.in-Some-3.one (subst (IsCitedRule cited c.in-Overlap.outer.dir) c.in-Some-3.is c.in_ok-one-in-Overlap.ensures)

pub returns-in-Some-4 : goal.returns-in-Some-4
returns-in-Some-4 c =
    let es = equations_of_list c.args.equations.now in
    let earlier = item c.args.earlier.now in
    let pair = c.args.pair.now in
    let o = c.in-Overlap in
    let outer = c.in-Some-3.one in
    let inner = c.in-Some-4.other in
    let one : IsCitedRule (earlier o.outer.node) o.outer.dir (Some outer) = subst (IsCitedRule (earlier o.outer.node) o.outer.dir) c.in-Some-3.is c.in_ok-one-in-Overlap.ensures in
    let other : IsCitedRule (earlier o.inner.node) o.inner.dir (Some inner) = subst (IsCitedRule (earlier o.inner.node) o.inner.dir) c.in-Some-4.is c.in_ok-other-in-Overlap.ensures in
    IfOk-weaker c.is_right_overlap.result
    (λ (b : Bool). IsTrue b ↔ IsRightOverlap outer inner o.position pair)
    (λ (b : Bool). IsTrue b ↔ FollowsBy es earlier c.args.origin.now pair)
    (λ b h. subst (λ x. IsTrue b ↔ FollowsBy es earlier x pair) (sym o.is) (overlap_origin es earlier o.outer o.inner o.position pair outer inner b one other h))
    c.is_right_overlap.ensures

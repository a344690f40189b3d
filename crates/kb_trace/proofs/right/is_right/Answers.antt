use Rattle.std.proofs.Common.{Bool}
use Rattle.std.specs.Prelude.{IsTrue, ◌↔◌}
use Rattle.std.proofs.lemmas.Result.{IfOk-weaker}
use Rattle.kb_term.specs.View.{equations_of_list}
use Rattle.kb_overlap.specs.Trace.{item, IsOriginOfForm, FollowsBy, IsRightOrigin}
use Rattle.kb_trace.proofs.right.is_right.Goals as goal

pub returns : goal.returns
returns c =
    let es = equations_of_list c.args.equations.now in
    let earlier = item c.args.earlier.now in
    let origin = c.args.origin.now in
    let pair = c.args.pair.now in
    let form : IsOriginOfForm origin = c.is_of_form.ensures.0 c.if-not-is_of_form.false in
    IfOk-weaker c.follows.result
    (λ (b : Bool). IsTrue b ↔ FollowsBy es earlier origin pair)
    (λ (b : Bool). IsTrue b ↔ IsRightOrigin es earlier origin pair)
    (λ b h. (λ y. (form, h.0 y), λ z. h.1 z.1))
    c.follows.ensures

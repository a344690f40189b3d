use Rattle.std.proofs.Common.{◌≡◌, ◌∙◌, sym, subst, Bool, Some}
use Rattle.std.specs.Prelude.{IsTrue, ◌↔◌}
use Rattle.std.proofs.lemmas.Result.{IfOk-weaker}
use Rattle.std.proofs.lemmas.Option.{same_Some}
use Rattle.kb_term.specs.Tree.{Tree}
use Rattle.kb_term.specs.Pair.{canonical_pair}
use Rattle.kb_term.specs.View.{tree_of, equations_of_list}
use Rattle.kb_overlap.specs.Trace.{item, IsRightInput}
use Rattle.kb_trace.proofs.right.is_right_input.Goals as goal

pub returns-in-Some : goal.returns-in-Some
returns-in-Some c =
    let s = tree_of c.in-Some.e.now.0 in
    let t = tree_of c.in-Some.e.now.1 in
    let pair = c.args.pair.now in
    let at : item (equations_of_list c.args.equations.now) c.args.number ≡ Some (s, t) = sym c.in-Some.ensures in
    IfOk-weaker c.is_canonical_pair.result
    (λ (b : Bool). IsTrue b ↔ (canonical_pair s t ≡ Some pair))
    (λ (b : Bool). IsTrue b ↔ IsRightInput (equations_of_list c.args.equations.now) c.args.number pair)
    (λ b h. ((λ y. ((s, t), at, h.0 y)), λ z. h.1 (subst (λ (d : Tree × Tree). canonical_pair d.0 d.1 ≡ Some pair) (same_Some z.0 (s, t) (sym z.1 ∙ at)) z.2)))
    c.is_canonical_pair.ensures

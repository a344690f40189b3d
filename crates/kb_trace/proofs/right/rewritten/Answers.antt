use Rattle.std.proofs.Common.{ℕ, ◌≡◌, ◌∙◌, sym, ap, subst, Some, Err}
use Rattle.std.specs.Prelude.{IsSomeAnd}
use Rattle.kb_term.specs.Tree.{Tree}
use Rattle.kb_term.specs.Position.{subtree_at, replace_at}
use Rattle.kb_term.specs.Substitution.{instance, substitution_of}
use Rattle.kb_term.specs.Made.{IsLimitedAnswer}
use Rattle.kb_term.specs.View.{tree_of}
use Rattle.kb_match.specs.Matching.{IsMatchAnswer}
use Rattle.kb_trace.proofs.Rewriting.{too_large, made_there}
use Rattle.kb_trace.proofs.right.rewritten.Goals as goal

pub returns-in-Ok : goal.returns-in-Ok
returns-in-Ok c =
    let rule = c.args.rule.now in
    let p = c.args.position.now in
    let t = tree_of c.args.t.now in
    let m = substitution_of c.in-Some-2.m in
    let match = subst (IsMatchAnswer (tree_of c.left.result.now) (tree_of c.in-Some.redex.now)) c.in-Some-2.is c.in_ok-m.ensures in
    let at : subtree_at t p ≡ Some (instance m rule.left) = sym c.in-Some.ensures ∙ ap Some (sym match.makes) ∙ ap (λ u. Some (instance m u)) c.left.ensures in
    made_there rule p m t (tree_of c.in_ok-made.made) c.in-Ok.result c.requires at (c.in_ok-made.ensures ∙ ap (instance m) c.right.ensures) c.in-Ok.ensures

pub returns-in-Err-Large : goal.returns-in-Err-Large
returns-in-Err-Large c =
    let rule = c.args.rule.now in
    let p = c.args.position.now in
    let t = tree_of c.args.t.now in
    let m = substitution_of c.in-Some-2.m in
    let match = subst (IsMatchAnswer (tree_of c.left.result.now) (tree_of c.in-Some.redex.now)) c.in-Some-2.is c.in_ok-m.ensures in
    let at : subtree_at t p ≡ Some (instance m rule.left) = sym c.in-Some.ensures ∙ ap Some (sym match.makes) ∙ ap (λ u. Some (instance m u)) c.left.ensures in
    too_large rule p m t (tree_of c.in_ok-made.made) c.in-Err-Large.field-0-0 c.requires at (c.in_ok-made.ensures ∙ ap (instance m) c.right.ensures)
    (subst (λ f. IsSomeAnd (replace_at t p (tree_of c.in_ok-made.made)) (λ v. IsLimitedAnswer v (Err f))) c.in-Err-Large.field-0-is c.in-Err-Large.ensures)

use Rattle.std.proofs.Common.{◌-◌, refl, sym, subst, ◌∙◌, ap, length, Some, Err}
use Rattle.std.specs.Prelude.{IsSomeAnd}
use Rattle.std.proofs.lemmas.Option.{slice_get_read}
use Rattle.kb_term.specs.Made.{IsLimitedAnswer}
use Rattle.kb_term.specs.Position.{replace_at}
use Rattle.kb_term.specs.View.{tree_of}
use Rattle.kb_term.specs.Substitution.{instance, substitution_of}
use Rattle.kb_match.specs.Matching.{IsMatchAnswer}
use Rattle.kb_decide.proofs.Lines.{stepped_made, stepped_large}
use Rattle.kb_decide.proofs.replaying.stepped.Goals as goal

pub returns-in-Ok : goal.returns-in-Ok
returns-in-Ok c =
    let u = tree_of c.in-Some-subterm.u.now in
    let m = substitution_of c.in-Some-2.m in
    let matched : IsMatchAnswer (tree_of c.left.result.now) u (Some c.in-Some-2.m) = subst (IsMatchAnswer (tree_of c.left.result.now) u) c.in-Some-2.is c.in_ok-m.ensures in
    stepped_made c.args.rules.now c.args.line.now (tree_of c.args.t.now) u (tree_of c.in_ok-made.made) c.in-Some.rule.now m c.in-Ok.next c.requires c.if-line-eq0.false (slice_get_read c.args.rules.now (length c.args.rules.now) (c.args.line.now.rule - 1) c.in-Some.rule.now refl c.in-Some.ensures.lookup.3.0 c.in-Some.ensures.lookup.1) (sym c.in-Some-subterm.ensures) (ap (instance m) (sym c.left.ensures) ∙ matched.makes) (c.in_ok-made.ensures ∙ ap (instance m) c.right.ensures) c.in-Ok.ensures

pub returns-in-Err-Large : goal.returns-in-Err-Large
returns-in-Err-Large c =
    let u = tree_of c.in-Some-subterm.u.now in
    let m = substitution_of c.in-Some-2.m in
    let matched : IsMatchAnswer (tree_of c.left.result.now) u (Some c.in-Some-2.m) = subst (IsMatchAnswer (tree_of c.left.result.now) u) c.in-Some-2.is c.in_ok-m.ensures in
    stepped_large c.args.rules.now c.args.line.now (tree_of c.args.t.now) u (tree_of c.in_ok-made.made) c.in-Some.rule.now m c.in-Err-Large.field-0-0 c.requires c.if-line-eq0.false (slice_get_read c.args.rules.now (length c.args.rules.now) (c.args.line.now.rule - 1) c.in-Some.rule.now refl c.in-Some.ensures.lookup.3.0 c.in-Some.ensures.lookup.1) (sym c.in-Some-subterm.ensures) (ap (instance m) (sym c.left.ensures) ∙ matched.makes) (c.in_ok-made.ensures ∙ ap (instance m) c.right.ensures) (subst (λ f. IsSomeAnd (replace_at (tree_of c.args.t.now) c.args.line.now.position (tree_of c.in_ok-made.made)) (λ v. IsLimitedAnswer v (Err f))) c.in-Err-Large.field-0-is c.in-Err-Large.ensures)

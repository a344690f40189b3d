use Rattle.std.proofs.Common.{◌∙◌, ◌++◌, ◌∷◌, [], List, filter, ap}
use Rattle.std.proofs.lemmas.Result.{on_ok_weaker}
use Rattle.kb_term.specs.declared.origin.RuleRef.{RuleRef}
use Rattle.mkb_model.specs.Plain.{is_constraint}
use Rattle.mkb_board.proofs.Viewed.{directions_pushed}
use Rattle.mkb_board.proofs.snapshots.orienting.push_constraints.Goals as goal

pub returns : goal.returns
returns c =
    let F = is_constraint c.args.state.now c.args.p.now in
    let n = c.args.n.0 in
    on_ok_weaker c.push_constraint-2.result (λ is. is ∙ ap (λ (z : List RuleRef). z ++ filter F (record { node = n; dir = 1 } ∷ [])) c.in_ok-push_constraint.ensures ∙ directions_pushed F n c.args.constraints.now.items) c.push_constraint-2.ensures

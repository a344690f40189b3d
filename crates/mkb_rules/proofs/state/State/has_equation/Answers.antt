use Rattle.std.proofs.Common.{◌∙◌, subst}
use Rattle.mkb_model.specs.Plain.{Plain}
use Rattle.mkb_rules.specs.Roles.{AreRolesOf}
use Rattle.mkb_rules.proofs.RowKept.{equations_whole}
use Rattle.mkb_rules.proofs.state.State.has_equation.Goals as goal

pub returns-then-is_whole : goal.returns-then-is_whole
returns-then-is_whole c =
    let b = c.args.self.now in
    let p = c.args.p.now in
    let row = c.in_ok-row.row.now in
    c.has_equation.ensures ∙ equations_whole b p row (subst {A = Plain} (λ v. AreRolesOf v.nodes p row) c.self.view_is c.in_ok-row.ensures) (c.is_whole.ensures c.if-is_whole.true)

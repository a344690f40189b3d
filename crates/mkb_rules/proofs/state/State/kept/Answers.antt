use Rattle.std.proofs.Common.{subst, ◌∙◌}
use Rattle.mkb_model.specs.Plain.{Plain}
use Rattle.mkb_rules.specs.Roles.{AreRolesOf}
use Rattle.mkb_rules.proofs.RowKept.{held_whole, rules_whole}
use Rattle.mkb_rules.proofs.state.State.kept.Goals as goal

pub returns-clause-nodes : goal.returns-clause-nodes
returns-clause-nodes c =
    let row = c.in_ok-row.row.now in
    let right = subst {A = Plain} (λ z. AreRolesOf z.nodes c.args.p.now row) c.self.view_is c.in_ok-row.ensures in
    c.in_ok-nodes.ensures ∙ held_whole c.args.self.now c.args.p.now row right (c.is_whole.ensures c.if-not-is_whole.false)

pub returns-clause-rules : goal.returns-clause-rules
returns-clause-rules c =
    let row = c.in_ok-row.row.now in
    let right = subst {A = Plain} (λ z. AreRolesOf z.nodes c.args.p.now row) c.self.view_is c.in_ok-row.ensures in
    c.in_ok-rules.ensures ∙ rules_whole c.args.self.now c.args.p.now row right (c.is_whole.ensures c.if-not-is_whole.false)

use Rattle.std.proofs.Common.{◌≡◌, sym, ap, ap₂, ◌∙◌, List, Bool, ◌&&◌}
use Rattle.std.specs.List.{list_any}
use Rattle.kb_term.specs.declared.origin.RuleRef.{RuleRef}
use Rattle.kb_node.specs.declared.node.NodeId.{NodeId}
use Rattle.mkb_model.specs.Plain.{Plain}
use Rattle.mkb_model.specs.DueJobs.{is_reducible}
use Rattle.mkb_rules.specs.Roles.{is_in_use, roles_of}
use Rattle.mkb_rules.specs.declared.roles.Roles.{Roles}
use Rattle.mkb_agenda.specs.Open.{is_open_to}
use Rattle.mkb_agenda.proofs.OpenRules.{reducible_by}
use Rattle.mkb_agenda.proofs.due.Seen.may_reduce.Goals as goal

pub returns-then-is_in_use : goal.returns-then-is_in_use
returns-then-is_in_use c =
    let b = c.args.self.now.state.now in
    let p = c.args.self.now.process.now in
    let n = c.args.known.now.node.0 in
    let roles : c.roles_of-roles.result ≡ roles_of b p n = c.roles_of-roles.ensures ∙ ap (λ (m : NodeId). roles_of b p m.0) c.node.ensures in
    c.has_open_rule.ensures ∙ ap (λ (z : Plain). list_any (is_open_to z c.roles_of-roles.result n) c.args.self.now.rules.now) c.requires.board
    ∙ ap₂ (λ (r : Roles) (rs : List RuleRef). list_any (is_open_to b r n) rs) roles c.requires.seen.rules ∙ sym (reducible_by b p n)
    ∙ sym (ap (λ (z : Bool). z && is_reducible b p n) (ap is_in_use (sym roles) ∙ sym c.is_in_use.ensures ∙ c.if-is_in_use.true))

use Rattle.std.proofs.Common.{◌≡◌, [], ap, ap₂, sym, subst, ◌∙◌}
use Rattle.kb_label.specs.Names.{is_empty, meet, minus}
use Rattle.mkb_model.specs.Plain.{Plain, label, rule_kind, done_of}
use Rattle.mkb_rules.proofs.Sets.{minus_none}
use Rattle.mkb_rules.proofs.state.State.have_all_overlapped.Goals as goal

pub returns-in-None : goal.returns-in-None
returns-in-None c =
    let b = c.args.self.now in
    let first = c.args.a in
    let second = c.args.b in
    let nobody : done_of b first second ≡ [] = subst {A = Plain} (λ z. done_of z first second ≡ []) c.self.view_is c.in-None.ensures in
    let both = meet (label b first.node (rule_kind first.dir)) (label b second.node (rule_kind second.dir)) in
    c.is_disjoint.ensures.exactly ∙ ap₂ (λ l m. is_empty (meet l m)) c.rule_label-first.ensures c.rule_label-second.ensures ∙ ap is_empty (sym (minus_none both) ∙ ap (minus both) (sym nobody))

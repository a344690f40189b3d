use Rattle.std.proofs.Common.{ap, sym, ◌∙◌, inl, inr}
use Rattle.kb_term.specs.declared.origin.Found.{Found}
use Rattle.mkb_model.specs.Plain.{label, rule_kind}
use Rattle.mkb_model.specs.Effects.{if_strict}
use Rattle.mkb_rules.proofs.state.State.strict_names.Goals as goal

pub returns-in-No : goal.returns-in-No
returns-in-No c =
    let l = label c.args.self.now c.args.n.0 (rule_kind c.args.side) in
    elim c.in-No.is [
      | inl e ↦ c.new.ensures c.self.inside.log ∙ sym (ap (λ (f : Found). if_strict f l) e)
      | inr e ↦ c.new.ensures c.self.inside.log ∙ sym (ap (λ (f : Found). if_strict f l) e)
    ]

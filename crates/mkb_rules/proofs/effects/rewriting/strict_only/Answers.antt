use Rattle.std.proofs.Common.{ap, sym, ◌∙◌, [], inl, inr}
use Rattle.kb_term.specs.declared.origin.Found.{Found}
use Rattle.mkb_model.specs.Effects.{if_strict}
use Rattle.mkb_rules.proofs.effects.rewriting.strict_only.Goals as goal

pub returns-in-No : goal.returns-in-No
returns-in-No c =
    elim c.in-No.is [
      | inl e ↦ c.new.ensures [] ∙ sym (ap (λ (f : Found). if_strict f c.args.names) e)
      | inr e ↦ c.new.ensures [] ∙ sym (ap (λ (f : Found). if_strict f c.args.names) e)
    ]

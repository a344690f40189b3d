use Rattle.std.proofs.Common.{[], ap, sym, ◌∙◌}
use Rattle.mkb_model.specs.Effects.{effect_label}
use Rattle.mkb_model.specs.declared.proposed.Proposed.{Proposed}
use Rattle.mkb_rules.proofs.state.State.effect_names.Goals as goal

pub returns-in-Facts : goal.returns-in-Facts
returns-in-Facts c = c.new.ensures [] ∙ sym (ap (λ (x : Proposed). effect_label c.args.self.now x) c.in-Facts.is)

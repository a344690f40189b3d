use Rattle.std.proofs.Common.{[], ap, sym, ◌∙◌}
use Rattle.mkb_model.specs.Effects.{redex_label}
use Rattle.mkb_rules.proofs.state.State.redex_names.Goals as goal

pub returns-in-None : goal.returns-in-None
returns-in-None c = c.new.ensures [] ∙ sym (ap (redex_label c.args.self.now c.args.n.0) c.in-None.is)

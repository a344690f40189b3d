use Rattle.std.proofs.Common.{[], ap, sym, ◌∙◌}
use Rattle.kb_node.specs.declared.job.Job.{Job}
use Rattle.mkb_model.specs.Effects.{limit_label}
use Rattle.mkb_rules.proofs.state.State.limit_names.Goals as goal

pub returns-in-Orient : goal.returns-in-Orient
returns-in-Orient c = c.new.ensures [] ∙ sym (ap (λ (j : Job). limit_label c.args.self.now j c.args.cause.now) c.in-Orient.is)

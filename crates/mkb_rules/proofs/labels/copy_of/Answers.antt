use Rattle.std.proofs.Common.{ap, ◌∙◌}
use Rattle.kb_label.specs.Names.{join}
use Rattle.mkb_rules.proofs.labels.copy_of.Goals as goal

pub returns : goal.returns
returns c = c.in_ok-join.ensures.ok ∙ ap (λ z. join z c.args.label.now) (c.new-copy.ensures c.args.log.now)

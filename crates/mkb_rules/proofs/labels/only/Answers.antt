use Rattle.std.proofs.Common.{ap, ◌∙◌}
use Rattle.kb_label.specs.Names.{add}
use Rattle.mkb_rules.proofs.labels.only.Goals as goal

pub returns : goal.returns
returns c = c.in_ok-add.ensures.ok ∙ ap (add c.args.p.now) (c.new-label.ensures c.args.log.now)

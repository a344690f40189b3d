use Rattle.std.proofs.Common.{ap, ◌∙◌}
use Rattle.fork_labels.specs.Places.{stands_for}
use Rattle.fork_labels.proofs.Stands.{stands-minus}
use Rattle.fork_labels.proofs.labels.ForkLabelsLabels.minus.Goals as goal

pub returns-clause-ok : goal.returns-clause-ok
returns-clause-ok c =
    ap (stands_for c.args.log.now) c.combine.ensures.made
    ∙ stands-minus c.args.log.now c.combine.ensures.log c.args.self.now c.args.other.now c.combine.ensures.first c.combine.ensures.second

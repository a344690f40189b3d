use Rattle.std.proofs.Common.{ap, ◌∙◌}
use Rattle.fork_labels.specs.Places.{stands_for}
use Rattle.fork_labels.proofs.Stands.{stands-none}
use Rattle.fork_labels.proofs.labels.ForkLabelsLabels.new.Goals as goal

pub returns-clause-none : goal.returns-clause-none
returns-clause-none c = λ log. ap (stands_for log) c.none.ensures ∙ stands-none log

use Rattle.std.proofs.Common.{List, false, ℕ, get_or, ap₂, ◌∙◌}
use Rattle.fork_labels.specs.Places.{at_end}
use Rattle.fork_labels.proofs.Stands.{has-stands}
use Rattle.fork_labels.proofs.labels.ForkLabelsLabels.has.Goals as goal

pub returns : goal.returns
returns c =
    c.has_place.ensures.place
    ∙ ap₂ (λ (l : List ℕ) (s : ℕ). get_or (at_end l c.args.self.now) s false) c.forks.ensures.forks c.place_of.ensures.place
    ∙ has-stands c.args.log.now c.forks.ensures.log c.args.self.now c.args.process.now c.has_place.ensures.some

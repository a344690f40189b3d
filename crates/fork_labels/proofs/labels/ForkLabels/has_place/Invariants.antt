use Rattle.std.proofs.Common.{◌≡◌, ◌+◌, ◌<◌, false, get_or, length}
use Rattle.fork_labels.specs.Places.{at_end}
use Rattle.fork_labels.proofs.labels.ForkLabels.has_place.Given as goal

abbrev pub invariant-loop-origin : goal.invariant-loop-origin
invariant-loop-origin l = (l.origin < length l.forks + 1) × (get_or (at_end l.forks l.self) l.origin false ≡ get_or (at_end l.forks l.self) l.place false)

abbrev pub decreases-loop-origin : goal.decreases-loop-origin
decreases-loop-origin l = l.origin

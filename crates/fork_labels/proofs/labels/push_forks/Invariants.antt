use Rattle.std.proofs.Common.{◌≡◌, ◌+◌, drop, length}
use Rattle.fork_labels.specs.Places.{with_forks}
use Rattle.fork_labels.proofs.labels.push_forks.Given as goal

abbrev pub invariant-loop-s : goal.invariant-loop-s
invariant-loop-s l = (with_forks l.set (drop l.s-index l.forks) ≡ with_forks l.fn.set l.forks) × (length l.set ≡ length l.fn.set + l.s-index)

use Rattle.std.proofs.Common.{◌≡◌, ◌++◌, ℕ, false, drop, get_or, map}
use Rattle.fork_labels.specs.Places.{picked}
use Rattle.fork_labels.proofs.fork_log.names_among.Given as goal

abbrev pub invariant-loop-i : goal.invariant-loop-i
invariant-loop-i l = l.kept.items ++ picked (map (λ (s : ℕ). get_or l.set s false) (drop l.i l.places)) (drop l.i l.names) ≡ picked (map (λ (s : ℕ). get_or l.set s false) l.places) l.names

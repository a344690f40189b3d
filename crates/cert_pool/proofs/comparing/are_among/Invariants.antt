use Rattle.std.proofs.Common.{ℕ, ◌<◌, Contains, slice_index_or}
use Rattle.kb_term.specs.Rule.{Rule}
use Rattle.cert_pool.proofs.comparing.are_among.Given as goal

-- the rules so far are among them
abbrev pub invariant-loop-i : goal.invariant-loop-i
invariant-loop-i l = (k : ℕ) (d : Rule) → k < l.i → Contains l.rules (slice_index_or l.some k d)

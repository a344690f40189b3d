use Rattle.std.proofs.Common.{ℕ, ◌≡◌, Contains}
use Rattle.std.specs.Int.{bit_at}
use Rattle.kb_lpo.specs.Search.{numbers}
use Rattle.kb_lpo.proofs.search.marks_of.Given as goal

-- each bit is that of a listed symbol
abbrev pub invariant-loop-i : goal.invariant-loop-i
invariant-loop-i l = (y : ℕ) → bit_at l.marks y ≡ 1 → Contains (numbers l.symbols) y

use Rattle.std.proofs.Common.{ℕ, ◌<◌, ◌≡◌, get_or}
use Rattle.kb_kbo.proofs.level.Level.is_even.Given as goal

-- the symbols so far occur as often on both sides
abbrev pub invariant-loop-f : goal.invariant-loop-f
invariant-loop-f l = (k : ℕ) → k < l.f → get_or l.self.left.symbols k 0 ≡ get_or l.self.right.symbols k 0

use Rattle.std.proofs.Common.{ℕ, ◌<◌, ◌≤◌, ◌≡◌, get_or, slice_index_or, length}
use Rattle.kb_kbo.proofs.search.filled.Given as goal

-- the weights so far are written, and behind them stands the value
abbrev pub invariant-loop-f : goal.invariant-loop-f
invariant-loop-f l = record {
  long : length l.all ≡ 8;
  written : (k : ℕ) → k < l.f → get_or l.all k 0 ≡ slice_index_or l.weights k l.value;
  others : (k : ℕ) → l.f ≤ k → k < 8 → get_or l.all k 0 ≡ l.value;
}

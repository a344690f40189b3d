use Rattle.std.proofs.Common.{◌≡◌, ◌<◌, ℕ, length, get_or, eqb}
use Rattle.std.specs.Int.{bit_at}
use Rattle.fork_labels.specs.Sets.{in_result}
use Rattle.fork_labels.proofs.place_set.combined_words.Given as goal

abbrev pub invariant-loop-k : goal.invariant-loop-k
invariant-loop-k l = (length l.words ≡ 16) × ((k j : ℕ) → k < l.k → j < 64 → eqb (bit_at (get_or l.words k 0) j) 1 ≡ in_result l.op (eqb (bit_at (get_or l.a k 0) j) 1) (eqb (bit_at (get_or l.b k 0) j) 1))

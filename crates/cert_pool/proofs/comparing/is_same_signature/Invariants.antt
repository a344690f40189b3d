use Rattle.std.proofs.Common.{ℕ, ◌<◌, ◌≡◌, slice_index_or, Vec}
use Rattle.std.specs.declared.alloc.Global.{Global}
use Rattle.cert_pool.proofs.comparing.is_same_signature.Given as goal

-- the symbols so far have the same names and arities
abbrev pub invariant-loop-i : goal.invariant-loop-i
invariant-loop-i l = (k : ℕ) (d : Vec ℕ Global × ℕ) → k < l.i → ((slice_index_or l.ours k d).0.items ≡ (slice_index_or l.theirs k d).0.items) × ((slice_index_or l.ours k d).1 ≡ (slice_index_or l.theirs k d).1)

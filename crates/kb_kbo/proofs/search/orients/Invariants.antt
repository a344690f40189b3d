use Rattle.std.proofs.Common.{ℕ, ◌<◌, slice_index_or}
use Rattle.kb_term.specs.Rule.{Rule}
use Rattle.kb_kbo.specs.KnuthBendix.{KboGreater}
use Rattle.kb_lpo.specs.Search.{numbers}
use Rattle.kb_kbo.specs.Measures.{order_of}
use Rattle.kb_kbo.proofs.search.orients.Given as goal

-- the rules so far are oriented
abbrev pub invariant-loop-i : goal.invariant-loop-i
invariant-loop-i l = (k : ℕ) (d : Rule) → k < l.i → KboGreater (order_of l.weights (numbers l.symbols)) (slice_index_or l.rules k d).left (slice_index_or l.rules k d).right

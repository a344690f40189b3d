use Rattle.std.proofs.Common.{ℕ, List, ◌≤◌}
use Rattle.kb_term.specs.Pair.{place_in}
use Rattle.kb_lpo.specs.Search.{FitsRows}
use Rattle.kb_lpo.proofs.known.Known.put.Given as goal

abbrev pub invariant-loop-x : goal.invariant-loop-x
invariant-loop-x l = (prec : List ℕ) → FitsRows l.initial.self.rows prec → place_in prec l.fn.f.0 ≤ place_in prec l.fn.g.0 → FitsRows l.self.rows prec

use Rattle.std.proofs.Common.{ℕ, List}
use Rattle.kb_lpo.specs.PathOrder.{IsAbove}
use Rattle.kb_kbo.specs.Search.{Fits}
use Rattle.kb_kbo.proofs.known.Known.learn_row.Given as goal

abbrev pub invariant-loop-y : goal.invariant-loop-y
invariant-loop-y l = (prec : List ℕ) → Fits l.initial.self prec → IsAbove prec l.f l.g.0 → Fits l.self prec

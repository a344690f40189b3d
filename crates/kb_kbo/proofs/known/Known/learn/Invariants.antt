use Rattle.std.proofs.Common.{ℕ, List}
use Rattle.kb_lpo.specs.PathOrder.{IsAbove}
use Rattle.kb_kbo.specs.Search.{Fits}
use Rattle.kb_kbo.proofs.known.Known.learn.Given as goal

abbrev pub invariant-loop-x : goal.invariant-loop-x
invariant-loop-x l = (prec : List ℕ) → Fits l.initial.self prec → IsAbove prec l.f.0 l.g.0 → Fits l.self prec

use Rattle.std.proofs.Common.{ℕ, List}
use Rattle.kb_lpo.specs.Search.{Fits}
use Rattle.kb_lpo.specs.Precedences.{LpoOrients}
use Rattle.kb_lpo.proofs.search.propagate.Given as goal

abbrev pub invariant-loop : goal.invariant-loop
invariant-loop l = (prec : List ℕ) → Fits l.initial.known prec → LpoOrients prec l.rules → Fits l.known prec

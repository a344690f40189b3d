use Rattle.std.proofs.Common.{ℕ, List, Contains, ◌≡◌}
use Rattle.kb_lpo.specs.PathOrder.{IsAbove}
use Rattle.kb_lpo.specs.Search.{Fits, numbers}
use Rattle.kb_lpo.proofs.search.put_next.Given as goal

abbrev pub invariant-loop-y : goal.invariant-loop-y
invariant-loop-y l = (prec : List ℕ) → Fits l.initial.known prec → ((g : ℕ) → ¬ Contains (numbers l.symbols) g → ¬ (l.f.0 ≡ g) → IsAbove prec l.f.0 g) → Fits l.known prec

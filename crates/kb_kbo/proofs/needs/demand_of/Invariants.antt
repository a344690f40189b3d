use Rattle.std.proofs.Common.{drop}
use Rattle.kb_kbo.specs.KnuthBendix.{KboOrder}
use Rattle.kb_kbo.specs.Asking.{Asks}
use Rattle.kb_kbo.specs.Search.{IsBetween}
use Rattle.kb_kbo.proofs.needs.demand_of.Given as goal

-- what all comparisons ask, those that are left ask too
abbrev pub invariant-loop-i : goal.invariant-loop-i
invariant-loop-i l = (order : KboOrder) → IsBetween order l.weights l.weights → Asks order l.levels → Asks order (drop l.i l.levels)

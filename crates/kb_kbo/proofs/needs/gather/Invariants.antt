use Rattle.kb_kbo.specs.KnuthBendix.{KboOrder}
use Rattle.kb_kbo.specs.Asking.{AreAskedAll}
use Rattle.kb_kbo.specs.Search.{IsBetween, Fits}
use Rattle.kb_kbo.proofs.needs.gather.Given as goal

-- what is recorded fits each order that has what is asked
abbrev pub invariant-loop-levels : goal.invariant-loop-levels
invariant-loop-levels l = (order : KboOrder) → IsBetween order l.weights l.weights → AreAskedAll order l.table → Fits l.initial.known order.precedence → Fits l.known order.precedence

use Rattle.std.proofs.Common.{◌≤◌, length}
use Rattle.kb_kbo.specs.KnuthBendix.{KboOrder}
use Rattle.kb_kbo.specs.Orders.{KboOrients}
use Rattle.kb_kbo.specs.Asking.{AreAskedAll}
use Rattle.kb_kbo.specs.Search.{Fits}
use Rattle.kb_kbo.proofs.needs.asked_of.Given as goal

-- an order of at most 8 weights that orients the rules has what is known, and meets the comparisons so far
abbrev pub invariant-loop-rule : goal.invariant-loop-rule
invariant-loop-rule l = (order : KboOrder) → length order.weights ≤ 8 → KboOrients order l.rules → AreAskedAll order l.table.items × Fits l.known order.precedence

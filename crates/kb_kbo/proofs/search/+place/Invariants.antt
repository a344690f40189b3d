use Rattle.std.proofs.Common.{◌≡◌, ◌++◌, ◌-◌, length}
use Rattle.kb_term.specs.First.{IsFirst}
use Rattle.std.specs.Prelude.{None}
use Rattle.kb_lpo.proofs.First.{tried}
use Rattle.kb_lpo.specs.Search.{numbers}
use Rattle.kb_kbo.specs.Measures.{order_of}
use Rattle.kb_kbo.specs.Orders.{KboOrients}
use Rattle.kb_kbo.proofs.search.+place.Given as goal

abbrev pub decreases-place : goal.decreases-place
decreases-place l = l.left

-- the prefix is as before, and no arrangement that begins with one of the symbols so far orients the rules
abbrev pub invariant-loop-y : goal.invariant-loop-y
invariant-loop-y l = record {
  prefix : numbers l.prefix.items ≡ numbers l.initial.prefix.items;
  none : IsFirst (λ rest. KboOrients (order_of l.weights (numbers l.initial.prefix.items ++ rest)) l.rules) (tried (l.left - 1) (numbers l.initial.prefix.items) (length l.weights) l.y) None;
}

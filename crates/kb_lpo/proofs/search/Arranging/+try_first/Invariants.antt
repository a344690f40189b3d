use Rattle.std.proofs.Common.{◌≡◌, ◌++◌, ◌-◌}
use Rattle.kb_term.specs.First.{IsFirst}
use Rattle.std.specs.Prelude.{None}
use Rattle.kb_lpo.specs.Search.{numbers}
use Rattle.kb_lpo.specs.Precedences.{LpoOrients}
use Rattle.kb_lpo.proofs.First.{tried}
use Rattle.kb_lpo.proofs.search.Arranging.+try_first.Given as goal

abbrev pub decreases-try_first : goal.decreases-try_first
decreases-try_first l = l.left

-- the prefix is as before, and no arrangement that begins with one of the symbols so far orients the rules
abbrev pub invariant-loop-y : goal.invariant-loop-y
invariant-loop-y l = (numbers l.prefix.items ≡ numbers l.initial.prefix.items) × IsFirst (λ rest. LpoOrients (numbers l.initial.prefix.items ++ rest) l.self.rules.now) (tried (l.left - 1) (numbers l.initial.prefix.items) l.self.count l.y) None

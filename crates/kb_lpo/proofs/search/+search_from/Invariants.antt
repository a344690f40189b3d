use Rattle.std.proofs.Common.{◌≡◌, ◌++◌, ◌-◌, ◌+◌, ◌*◌}
use Rattle.kb_term.specs.First.{IsFirst}
use Rattle.std.specs.Prelude.{None}
use Rattle.kb_lpo.specs.Search.{numbers}
use Rattle.kb_lpo.specs.Precedences.{LpoOrients}
use Rattle.kb_lpo.proofs.First.{tried}
use Rattle.kb_lpo.proofs.search.+search_from.Given as goal

abbrev pub decreases-search_from : goal.decreases-search_from
decreases-search_from l = 2 * l.left

abbrev pub decreases-search_or_fit : goal.decreases-search_or_fit
decreases-search_or_fit l = 2 * l.left + 1

-- the prefix is as before, and no arrangement that begins with one of the symbols so far orients the rules
abbrev pub invariant-search_from-loop-y : goal.invariant-search_from-loop-y
invariant-search_from-loop-y l = (numbers l.prefix.items ≡ numbers l.initial.prefix.items) × IsFirst (λ rest. LpoOrients (numbers l.initial.prefix.items ++ rest) l.rules) (tried (l.left - 1) (numbers l.initial.prefix.items) l.count l.y) None

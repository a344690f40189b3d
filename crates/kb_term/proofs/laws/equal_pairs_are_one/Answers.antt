use Rattle.std.proofs.Common.{◌≡◌, ap, ap₂, true}
use Rattle.std.specs.Ordering.{is_eq, ordering_then}
use Rattle.std.specs.Cmp.{Equal-is}
use Rattle.kb_term.specs.Pair.{Pair, pair_cmp}
use Rattle.kb_term.specs.TermOrder.{tree_cmp-same}
use Rattle.kb_term.proofs.CanonicalPairs.{tree_equal, pair_equal}
use Rattle.kb_term.proofs.laws.equal_pairs_are_one.Goals as goal

pub returns-clause-terms : goal.returns-clause-terms
returns-clause-terms c s t = (λ h. tree_equal s t ((Equal-is _).0 h), λ e. rw (← e) (ap is_eq (tree_cmp-same s)))

pair_same : (d : Pair) → is_eq (pair_cmp d d) ≡ true
pair_same d = ap is_eq (ap₂ ordering_then (tree_cmp-same d.first) (tree_cmp-same d.second))

pub returns-clause-pairs : goal.returns-clause-pairs
returns-clause-pairs c d e = (λ h. pair_equal d e ((Equal-is _).0 h), λ x. rw (← x) (pair_same d))

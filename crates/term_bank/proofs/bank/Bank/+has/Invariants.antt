use Rattle.std.proofs.Common.{◌≡◌, take}
use Rattle.std.specs.Prelude.{map}
use Rattle.kb_term.specs.Tree.{tree_depth}
use Rattle.kb_term.specs.View.{tree_of}
use Rattle.term_bank.specs.Terms.{terms_at}
use Rattle.term_bank.proofs.bank.Bank.+has.Given as goal

abbrev pub decreases-has : goal.decreases-has
decreases-has l = tree_depth (tree_of l.t.now)

-- the arguments so far have their terms
abbrev pub invariant-loop-i : goal.invariant-loop-i
invariant-loop-i l = take l.i (terms_at l.self l.ids) ≡ take l.i (map tree_of l.items)

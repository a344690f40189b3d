use Rattle.kb_term.specs.View.{tree_of}
use Rattle.term_bank.proofs.Found.{IsSought, after}
use Rattle.term_bank.proofs.bank.Bank.lookup.Given as goal

-- the places that were passed don't have the term
abbrev pub invariant-loop-at : goal.invariant-loop-at
invariant-loop-at l = IsSought l.self l.self-inside.chains (tree_of l.t) l.hash l.at

abbrev pub decreases-loop-at : goal.decreases-loop-at
decreases-loop-at l = after l.at

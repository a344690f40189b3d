use Rattle.term_bank.specs.Terms.{terms_at}
use Rattle.term_bank.specs.Cells.{term_with}
use Rattle.term_bank.proofs.Found.{IsSought, after}
use Rattle.term_bank.proofs.bank.Bank.find.Given as goal

-- the places that were passed don't have the term
abbrev pub invariant-loop-at : goal.invariant-loop-at
invariant-loop-at l = IsSought l.self l.self-inside.chains (term_with l.head (terms_at l.self l.ids)) l.hash l.at

abbrev pub decreases-loop-at : goal.decreases-loop-at
decreases-loop-at l = after l.at

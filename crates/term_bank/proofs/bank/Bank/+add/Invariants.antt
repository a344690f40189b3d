use Rattle.kb_term.specs.Tree.{tree_depth}
use Rattle.kb_term.specs.View.{tree_of}
use Rattle.term_bank.proofs.Coming.{HaveCome}
use Rattle.term_bank.proofs.bank.Bank.+add.Given as goal

abbrev pub decreases-add : goal.decreases-add
decreases-add l = tree_depth (tree_of l.t.now)

-- the arguments so far came in, and have these cells
abbrev pub invariant-loop-argument : goal.invariant-loop-argument
invariant-loop-argument l = HaveCome l.initial.self l.self l.argument-items l.argument-index l.ids.items

use Rattle.std.proofs.Common.{◌≡◌, take}
use Rattle.std.specs.Prelude.{map}
use Rattle.kb_term.specs.View.{tree_of}
use Rattle.term_bank.specs.Terms.{terms_at}
use Rattle.term_bank.proofs.bank.Bank.+view.Given as goal

abbrev pub decreases-view : goal.decreases-view
decreases-view l = l.id.0

-- the arguments so far are there
abbrev pub invariant-loop-argument : goal.invariant-loop-argument
invariant-loop-argument l = map tree_of l.items.items ≡ terms_at l.self (take l.argument-index l.ids)

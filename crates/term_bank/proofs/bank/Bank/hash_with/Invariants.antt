use Rattle.std.proofs.Common.{◌≡◌, take}
use Rattle.term_bank.specs.Terms.{terms_at}
use Rattle.term_bank.proofs.Hashed.{list_hash}
use Rattle.term_bank.proofs.bank.Bank.hash_with.Given as goal

-- the arguments so far are mixed in
abbrev pub invariant-loop-id : goal.invariant-loop-id
invariant-loop-id l = l.hash ≡ list_hash (terms_at l.self (take l.id-index l.ids)) l.initial.hash

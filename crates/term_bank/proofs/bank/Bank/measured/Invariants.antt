use Rattle.std.proofs.Common.{◌≡◌, ◌+◌, take}
use Rattle.std.specs.Prelude.{sum_by}
use Rattle.kb_term.specs.Tree.{tree_size, list_depth}
use Rattle.term_bank.specs.Terms.{term_at, terms_at}
use Rattle.term_bank.specs.declared.cell.TermId.{TermId}
use Rattle.term_bank.proofs.bank.Bank.measured.Given as goal

-- the arguments so far are counted
abbrev pub invariant-loop-id : goal.invariant-loop-id
invariant-loop-id l = record {
  size : l.size ≡ 1 + sum_by (λ (id : TermId). tree_size (term_at l.self id.0)) (take l.id-index l.ids);
  depth : l.deepest ≡ list_depth (terms_at l.self (take l.id-index l.ids));
}

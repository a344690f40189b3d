use Rattle.std.proofs.Common.{◌≡◌, ◌∙◌, sym, ap, subst, length, take, drop, arith, List}
use Rattle.kb_term.specs.Tree.{apply, trees_of}
use Rattle.term_bank.specs.Terms.{terms_at, AreBelow}
use Rattle.term_bank.specs.Cells.{term_with, ids_of}
use Rattle.term_bank.specs.declared.cell.TermId.{TermId}
use Rattle.term_bank.proofs.CellRows.{cell_seen}
use Rattle.term_bank.proofs.bank.Bank.cell.Goals as goal

pub row-requires : goal.row-requires
row-requires c =
    let cell = cell_seen c.self.inside.chains c.self.inside.cells.items c.self.inside.arguments.items c.args.self.now c.self.invariant c.self.view_is c.args.id.0 c.index-entry.result.now c.requires c.index-entry.ensures in
    omega (arith, cell.within, ap length c.as_slice.ensures.value)

pub returns-in-Var-clause-term : goal.returns-in-Var-clause-term
returns-in-Var-clause-term c =
    let cell = cell_seen c.self.inside.chains c.self.inside.cells.items c.self.inside.arguments.items c.args.self.now c.self.invariant c.self.view_is c.args.id.0 c.index-entry.result.now c.requires c.index-entry.ensures in
    sym (cell.term ∙ ap (λ h. term_with h (terms_at c.args.self.now (ids_of c.self.inside.arguments.items c.index-entry.result.now))) c.in-Var.is)

pub returns-in-App-clause-term : goal.returns-in-App-clause-term
returns-in-App-clause-term c =
    let cell = cell_seen c.self.inside.chains c.self.inside.cells.items c.self.inside.arguments.items c.args.self.now c.self.invariant c.self.view_is c.args.id.0 c.index-entry.result.now c.requires c.index-entry.ensures in
    let row : c.row.result.now ≡ ids_of c.self.inside.arguments.items c.index-entry.result.now = c.row.ensures ∙ ap (λ (xs : List TermId). take c.index-entry.result.now.count (drop c.index-entry.result.now.start xs)) c.as_slice.ensures.value in
    sym (cell.term ∙ ap (λ h. term_with h (terms_at c.args.self.now (ids_of c.self.inside.arguments.items c.index-entry.result.now))) c.in-App.is
    ∙ ap (λ xs. apply c.in-App.f.0 (trees_of (terms_at c.args.self.now xs))) (sym row))

pub returns-in-App-clause-below : goal.returns-in-App-clause-below
returns-in-App-clause-below c =
    let cell = cell_seen c.self.inside.chains c.self.inside.cells.items c.self.inside.arguments.items c.args.self.now c.self.invariant c.self.view_is c.args.id.0 c.index-entry.result.now c.requires c.index-entry.ensures in
    let row : c.row.result.now ≡ ids_of c.self.inside.arguments.items c.index-entry.result.now = c.row.ensures ∙ ap (λ (xs : List TermId). take c.index-entry.result.now.count (drop c.index-entry.result.now.start xs)) c.as_slice.ensures.value in
    subst (AreBelow c.args.id.0) (sym row) cell.below

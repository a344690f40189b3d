use Rattle.std.proofs.Common.{◌≡◌, ◌++◌, ◌∷◌, [], ◌∙◌, ap, List, length, arith, refl}
use Rattle.term_bank.specs.declared.cell.TermId.{TermId}
use Rattle.term_bank.specs.declared.cell.Entry.{Entry}
use Rattle.term_bank.proofs.CellRows.{bank_push-seen}
use Rattle.term_bank.proofs.bank.Bank.push.Goals as goal

pub invariant_of-self-2 : goal.invariant_of-self-2
invariant_of-self-2 c =
    let cells = c.self.inside.cells.items in
    let arguments = c.self.inside.arguments.items in
    let ids = c.args.ids.now in
    let e : Entry = record { head = c.args.head; start = c.len.result; count = length c.args.ids.now; size = c.measured-size.result.0; depth = c.measured-size.result.1 } in
    let appended = rw c.unwrap-2.ensures at c.push-2.ensures.items in
    let extended = rw c.unwrap.ensures at c.extend_from_slice.ensures.items in
    let pushed : c.push-2.new.self.items ≡ cells ++ e ∷ [] = appended ∙ ap (λ (xs : List Entry). xs ++ e ∷ []) c.in_ok-reserve.ensures.items in
    let longer : c.extend_from_slice.new.self.items ≡ arguments ++ ids = extended ∙ ap (λ (xs : List TermId). xs ++ ids) c.in_ok-reserve-2.ensures.items in
    let both =
    bank_push-seen c.self.inside.chains cells arguments c.args.self.now c.self.invariant c.self.view_is ids e c.args.hash (omega (arith, c.len.ensures)) refl c.requires.below
    c.measured-size.ensures.size c.measured-size.ensures.depth c.requires.hash c.requires.lacks c.requires.room in
    rw (c.in_ok-push.ensures.ok, pushed, longer) both.1

pub returns-clause-ok : goal.returns-clause-ok
returns-clause-ok c =
    let cells = c.self.inside.cells.items in
    let arguments = c.self.inside.arguments.items in
    let ids = c.args.ids.now in
    let e : Entry = record { head = c.args.head; start = c.len.result; count = length c.args.ids.now; size = c.measured-size.result.0; depth = c.measured-size.result.1 } in
    let appended = rw c.unwrap-2.ensures at c.push-2.ensures.items in
    let extended = rw c.unwrap.ensures at c.extend_from_slice.ensures.items in
    let pushed : c.push-2.new.self.items ≡ cells ++ e ∷ [] = appended ∙ ap (λ (xs : List Entry). xs ++ e ∷ []) c.in_ok-reserve.ensures.items in
    let longer : c.extend_from_slice.new.self.items ≡ arguments ++ ids = extended ∙ ap (λ (xs : List TermId). xs ++ ids) c.in_ok-reserve-2.ensures.items in
    let both =
    bank_push-seen c.self.inside.chains cells arguments c.args.self.now c.self.invariant c.self.view_is ids e c.args.hash (omega (arith, c.len.ensures)) refl c.requires.below
    c.measured-size.ensures.size c.measured-size.ensures.depth c.requires.hash c.requires.lacks c.requires.room in
    rw (pushed, longer) both.0

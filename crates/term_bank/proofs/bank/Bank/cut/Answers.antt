use Rattle.std.proofs.Common.{ℕ, ◌≡◌, ◌+◌, ◌<◌, ◌≤◌, ◌∙◌, length, take, Some, refl, ap, arith}
use Rattle.std.specs.Prelude.{slice_get}
use Rattle.std.proofs.lemmas.Option.{slice_get_read}
use Rattle.term_bank.specs.declared.cell.Entry.{Entry}
use Rattle.term_bank.proofs.CellRows.{bank_take, bank_take-terms}
use Rattle.term_bank.proofs.bank.Bank.cut.Goals as goal

pub invariant_of-self : goal.invariant_of-self
invariant_of-self c =
    let cells = c.self.inside.cells.items in
    let arguments = c.self.inside.arguments.items in
    let used = c.args.used in
    let first : Entry = c.index.result.now in
    let within : used < length cells = omega (arith, c.if-used-len.false, c.len.ensures) in
    let at : slice_get cells used ≡ Some first = slice_get_read cells (length cells) used first refl within c.index.ensures in
    let shorter : first.start ≤ length arguments = omega (arith, (c.self.invariant.each used first at).within) in
    let fits : (i : ℕ) (e : Entry) → i < used → slice_get cells i ≡ Some e → e.start + e.count ≤ first.start = λ i e h g. c.self.invariant.rows i used e first g at h in
    rw (c.truncate.ensures, c.truncate-2.ensures.items, c.truncate-3.ensures.items)
    (bank_take c.self.inside.chains cells arguments c.self.invariant used first.start (omega arith) shorter fits)

pub returns : goal.returns
returns c =
    let cells = c.self.inside.cells.items in
    let arguments = c.self.inside.arguments.items in
    let used = c.args.used in
    let first : Entry = c.index.result.now in
    let within : used < length cells = omega (arith, c.if-used-len.false, c.len.ensures) in
    let at : slice_get cells used ≡ Some first = slice_get_read cells (length cells) used first refl within c.index.ensures in
    let shorter : first.start ≤ length arguments = omega (arith, (c.self.invariant.each used first at).within) in
    let fits : (i : ℕ) (e : Entry) → i < used → slice_get cells i ≡ Some e → e.start + e.count ≤ first.start = λ i e h g. c.self.invariant.rows i used e first g at h in
    rw (c.truncate-2.ensures.items, c.truncate-3.ensures.items)
    (bank_take-terms c.self.inside.chains cells arguments c.self.invariant used first.start (omega arith) shorter fits ∙ ap (take used) c.self.view_is)

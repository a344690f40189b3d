use Rattle.std.proofs.Common.{ℕ, ◌≡◌, ◌+◌, ◌<◌, ap, length, get_or, arith, List}
use Rattle.std.specs.Prelude.{sum_by}
use Rattle.std.proofs.lemmas.List.{take_all, get_or_default}
use Rattle.std.proofs.lemmas.List.Sums.{sum_by_more, sum_by_more_le}
use Rattle.kb_term.specs.Tree.{Tree, tree_size, tree_depth, list_depth}
use Rattle.kb_term.specs.declared.term.Symbol.{Symbol}
use Rattle.kb_term.proofs.Sizes.{trees_size-map, list_depth_more-map, trees_depth-of, tree_depth-le-tree_size}
use Rattle.term_bank.specs.Terms.{term_at, terms_at, AreBelow}
use Rattle.term_bank.specs.Cells.{term_with, terms_in, IsCell, IsBank}
use Rattle.term_bank.specs.declared.cell.TermId.{TermId}
use Rattle.term_bank.specs.declared.cell.Entry.{Entry}
use Rattle.term_bank.specs.declared.cell.Head.{Head}
use Rattle.term_bank.specs.declared.cell.Head.TheVariants.{App}
use Rattle.term_bank.proofs.TermRows.{below_at}
use Rattle.term_bank.proofs.CellRows.{cell_seen}
use Rattle.term_bank.proofs.bank.Bank.measured.Goals as goal

whole_size : (terms : List Tree) (ids : List TermId) (head : Head) (f : Symbol) → head ≡ App f → tree_size (term_with head (terms_at terms ids)) ≡ 1 + sum_by (λ (x : TermId). tree_size (term_at terms x.0)) ids
whole_size terms ids head f is = omega (arith, ap (λ h. tree_size (term_with h (terms_at terms ids))) is, trees_size-map (λ (x : TermId). term_at terms x.0) ids)

whole_depth : (terms : List Tree) (ids : List TermId) (head : Head) (f : Symbol) → head ≡ App f → tree_depth (term_with head (terms_at terms ids)) ≡ list_depth (terms_at terms ids) + 1
whole_depth terms ids head f is = omega (arith, ap (λ h. tree_depth (term_with h (terms_at terms ids))) is, trees_depth-of (terms_at terms ids))

-- the cell of an argument
kept : (hashes : List ℕ) (cells : List Entry) (arguments : List TermId) (terms : List Tree) → IsBank hashes cells arguments → terms_in cells arguments ≡ terms
    → (ids : List TermId) (k : ℕ) (none : TermId) (e : Entry) → AreBelow (length terms) ids → k < length ids → e ≡ get_or cells (get_or ids k none).0 e → IsCell arguments terms (get_or ids k none).0 e
kept hashes cells arguments terms bank seen ids k none e below h is =
    cell_seen hashes cells arguments terms bank seen (get_or ids k none).0 e (below_at (length terms) ids k (get_or ids k none) below h (get_or_default ids k none (get_or ids k none) h)) is

pub overflow_add-size : goal.overflow_add-size
overflow_add-size c =
    let ids = c.args.ids.now in
    let k = c.loop-id.id-index in
    let none : TermId = record { 0 = 0 } in
    let cell = kept c.self.inside.chains c.self.inside.cells.items c.self.inside.arguments.items c.args.self.now c.self.invariant c.self.view_is ids k none c.index-entry.result.now c.requires.below c.loop-id-test.true c.index-entry.ensures in
    omega (
      arith,
      c.requires.fits,
      cell.size,
      c.loop-id.invariant.size,
      whole_size c.args.self.now ids c.args.head c.in-App.field-0 c.in-App.is,
      sum_by_more_le (λ (x : TermId). tree_size (term_at c.args.self.now x.0)) ids k none c.loop-id-test.true,
    )

pub loop-id-preserved : goal.loop-id-preserved
loop-id-preserved c =
    let ids = c.args.ids.now in
    let k = c.loop-id.id-index in
    let none : TermId = record { 0 = 0 } in
    let cell = kept c.self.inside.chains c.self.inside.cells.items c.self.inside.arguments.items c.args.self.now c.self.invariant c.self.view_is ids k none c.index-entry.result.now c.requires.below c.loop-id-test.true c.index-entry.ensures in
    record {
      size = omega (arith, cell.size, c.loop-id.invariant.size, sum_by_more (λ (x : TermId). tree_size (term_at c.args.self.now x.0)) ids k none c.loop-id-test.true);
      depth = omega (arith, cell.depth, c.loop-id.invariant.depth, c.max-deepest.ensures, list_depth_more-map (λ (x : TermId). term_at c.args.self.now x.0) ids k none c.loop-id-test.true);
    }

pub overflow_add-result : goal.overflow_add-result
overflow_add-result c =
    let ids = c.args.ids.now in
    omega (
      arith,
      c.requires.fits,
      c.loop-id.invariant.depth,
      ap (λ xs. list_depth (terms_at c.args.self.now xs)) (take_all c.loop-id.id-index ids (omega (arith, c.loop-id-test.false))),
      whole_depth c.args.self.now ids c.args.head c.in-App.field-0 c.in-App.is,
      tree_depth-le-tree_size (term_with c.args.head (terms_at c.args.self.now ids)),
    )

pub returns-after-loop-id-clause-size : goal.returns-after-loop-id-clause-size
returns-after-loop-id-clause-size c =
    let ids = c.args.ids.now in
    omega (
      arith,
      c.loop-id.invariant.size,
      whole_size c.args.self.now ids c.args.head c.in-App.field-0 c.in-App.is,
      ap (λ xs. sum_by (λ (x : TermId). tree_size (term_at c.args.self.now x.0)) xs) (take_all c.loop-id.id-index ids (omega (arith, c.loop-id-test.false))),
    )

pub returns-after-loop-id-clause-depth : goal.returns-after-loop-id-clause-depth
returns-after-loop-id-clause-depth c =
    let ids = c.args.ids.now in
    omega (
      arith,
      c.loop-id.invariant.depth,
      whole_depth c.args.self.now ids c.args.head c.in-App.field-0 c.in-App.is,
      ap (λ xs. list_depth (terms_at c.args.self.now xs)) (take_all c.loop-id.id-index ids (omega (arith, c.loop-id-test.false))),
    )

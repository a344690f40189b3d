use Rattle.std.proofs.Common.{arith, ◌∙◌, ap, ◌-◌, ◌≡◌, set, length, refl, ℕ}
use Rattle.std.specs.Prelude.{Vec}
use Rattle.std.specs.Vec.{with_item}
use Rattle.std.specs.declared.alloc.Global.{Global}
use Rattle.kb_linear.specs.Limits.{interpretation_of}
use Rattle.kb_linear.specs.Numbers.{numbers_of, shape_of}
use Rattle.std.proofs.lemmas.List.{length-set}
use Rattle.kb_linear.proofs.Places.{offset_more, offset_end, constant_set, coefficient_set, numbers_set, shape_set, interpretation_set, interpretation_at, length-interpretation, same_row}
use Rattle.kb_linear.proofs.numbers.set_number.Goals as goal

pub returns-then-left-eq0-clause-numbers : goal.returns-then-left-eq0-clause-numbers
returns-then-left-eq0-clause-numbers c =
    let rows = c.loop-f.rows.items in
    let row = c.index_mut.result.now in
    let l = length-interpretation rows in
    ap numbers_of (interpretation_set rows c.loop-f.f (c.args.value, row.1))
    ∙ numbers_set (interpretation_of rows) c.loop-f.f c.loop-f.left c.args.k c.args.value (row.0, row.1.items) (c.args.value, row.1.items) (omega arith)
    (interpretation_at rows c.loop-f.f row (omega arith) c.index_mut.ensures.value) (constant_set (row.0, row.1.items) c.loop-f.left c.args.value c.if-left-eq0.true) c.loop-f.invariant.1
    ∙ ap (λ z. set (numbers_of (interpretation_of z)) c.args.k c.args.value) c.loop-f.invariant.0

pub returns-then-left-eq0-clause-shape : goal.returns-then-left-eq0-clause-shape
returns-then-left-eq0-clause-shape c =
    let rows = c.loop-f.rows.items in
    let row = c.index_mut.result.now in
    ap shape_of (interpretation_set rows c.loop-f.f (c.args.value, row.1))
    ∙ shape_set (interpretation_of rows) c.loop-f.f (row.0, row.1.items) (c.args.value, row.1.items) (interpretation_at rows c.loop-f.f row (omega arith) c.index_mut.ensures.value) refl
    ∙ ap (λ z. shape_of (interpretation_of z)) c.loop-f.invariant.0

width : (c : goal.After-rows-then-left-width-1) → c.len-width.result ≡ length c.index_mut-then-left-width.result.now.1.items
width c =
    let e = same_row c.loop-f.rows.items c.loop-f.f c.index.result.now c.index_mut-then-left-width.result.now (omega arith) c.index.ensures c.index_mut-then-left-width.ensures.value in
    let q : length c.index.result.now.1.items ≡ length c.index_mut-then-left-width.result.now.1.items = ap (λ (z : ℕ × Vec ℕ Global). length z.1.items) e in
    omega (arith, c.len-width.ensures)

pub returns-then-left-width-clause-numbers : goal.returns-then-left-width-clause-numbers
returns-then-left-width-clause-numbers c =
    let rows = c.loop-f.rows.items in
    let row = c.index_mut-then-left-width.result.now in
    let l = length-interpretation rows in
    let new = set row.1.items (c.loop-f.left - 1) c.args.value in
    ap numbers_of (interpretation_set rows c.loop-f.f (row.0, with_item row.1 (c.loop-f.left - 1) c.args.value))
    ∙ numbers_set (interpretation_of rows) c.loop-f.f c.loop-f.left c.args.k c.args.value (row.0, row.1.items) (row.0, new) (omega arith)
    (interpretation_at rows c.loop-f.f row (omega arith) c.index_mut-then-left-width.ensures.value) (coefficient_set (row.0, row.1.items) c.loop-f.left c.args.value (omega arith) (omega (arith, width c))) c.loop-f.invariant.1
    ∙ ap (λ z. set (numbers_of (interpretation_of z)) c.args.k c.args.value) c.loop-f.invariant.0

pub returns-then-left-width-clause-shape : goal.returns-then-left-width-clause-shape
returns-then-left-width-clause-shape c =
    let rows = c.loop-f.rows.items in
    let row = c.index_mut-then-left-width.result.now in
    ap shape_of (interpretation_set rows c.loop-f.f (row.0, with_item row.1 (c.loop-f.left - 1) c.args.value))
    ∙ shape_set (interpretation_of rows) c.loop-f.f (row.0, row.1.items) (row.0, set row.1.items (c.loop-f.left - 1) c.args.value) (interpretation_at rows c.loop-f.f row (omega arith) c.index_mut-then-left-width.ensures.value) (length-set row.1.items (c.loop-f.left - 1) c.args.value)
    ∙ ap (λ z. shape_of (interpretation_of z)) c.loop-f.invariant.0

pub loop-f-preserved : goal.loop-f-preserved
loop-f-preserved c =
    let m = offset_more c.loop-f.rows.items c.loop-f.f c.index.result.now (omega arith) c.index.ensures in
    (c.loop-f.invariant.0, omega (arith, m, c.len-width.ensures, c.loop-f.invariant.1))

pub returns-clause-numbers : goal.returns-clause-numbers
returns-clause-numbers c =
    let l = length-interpretation c.loop-f.rows.items in
    let r = ap (λ z. length (numbers_of (interpretation_of z))) c.loop-f.invariant.0 in
    absurd (let e = offset_end (interpretation_of c.loop-f.rows.items) c.loop-f.f (omega arith) in omega arith)

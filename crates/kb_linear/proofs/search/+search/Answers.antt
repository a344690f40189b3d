use Rattle.std.proofs.Common.{ℕ, suc, ◌+◌, ◌≡◌, arith, sym, ◌∙◌, subst}
use Rattle.std.proofs.lemmas.Bool.{false≢true}
use Rattle.kb_linear.specs.Numbers.{shape_of, low_of, high_of, AreBounds}
use Rattle.kb_linear.proofs.Values.{read_at}
use Rattle.kb_linear.proofs.Within.{within_lengths}
use Rattle.kb_linear.proofs.Searching.{member_length, refused, complete, trying_first, put_of, put_low, put_next, put_start, put_found, put_none, tried_all, at_shape, start_shape, searched_shape, judged, unjudged}
use Rattle.kb_linear.proofs.search.+search.Goals as goal

pub returns-then-not-may_orient : goal.returns-then-not-may_orient
returns-then-not-may_orient t c =
    let space = c.args.space.now in
    refused c.args.rules.now (shape_of (low_of space)) c.args.bounds.now space c.args.k c.requires.at
    (λ o. false≢true (sym c.if-not-may_orient.true ∙ c.may_orient.ensures.1 (unjudged c.args.rules.now space c.deref.result.now c.deref-2.result.now c.deref.ensures.value c.deref-2.ensures.value o)))

pub returns-then-k-len : goal.returns-then-k-len
returns-then-k-len t c =
    let space = c.args.space.now in
    complete c.args.rules.now (shape_of (low_of space)) c.args.bounds.now space c.args.k c.requires.at (omega arith)
    (judged c.args.rules.now space c.deref.result.now c.deref-2.result.now c.deref.ensures.value c.deref-2.ensures.value c.may_orient.ensures.0 c.if-not-may_orient.false)

pub first_number-value-requires-clause-start : goal.first_number-value-requires-clause-start
first_number-value-requires-clause-start t c = λ e.
    let b = c.args.bounds.now in
    let n = within_lengths b.least.items b.most.items b.start.items (c.requires.start e).within in
    omega arith

pub index-requires : goal.index-requires
index-requires t c =
    let b = c.args.bounds.now in
    let n = within_lengths b.least.items b.most.items b.least.items c.requires.bounds.least_within in
    omega arith

pub overflow_add-value-end : goal.overflow_add-value-end
overflow_add-value-end t c =
    let b = c.args.bounds.now in
    let n = within_lengths b.least.items b.most.items b.least.items c.requires.bounds.least_within in
    let r = read_at b.most.items c.args.k c.index.result.now (omega arith) c.index.ensures in
    let q = c.requires.bounds.below c.args.k 0 (omega arith) in
    omega arith

pub loop-value-init : goal.loop-value-init
loop-value-init t c =
    let space = c.args.space.now in (
      trying_first c.args.rules.now (shape_of (low_of space)) c.args.bounds.now space c.args.k c.first_number-value.result c.args.is_tight c.requires.at c.requires.start (omega arith) c.first_number-value.ensures.tight c.first_number-value.ensures.loose,
      λ e. (e, c.first_number-value.ensures.tight e),
    )

pub set_number-requires : goal.set_number-requires
set_number-requires t c =
    let e = member_length (shape_of (low_of c.args.space.now)) c.args.bounds.now (low_of c.loop-value.space) c.loop-value.invariant.0.low_member in omega arith

pub set_number-requires-in-loop-value : goal.set_number-requires-in-loop-value
set_number-requires-in-loop-value t c =
    let e = member_length (shape_of (low_of c.args.space.now)) c.args.bounds.now (high_of c.loop-value.space) c.loop-value.invariant.0.high_member in omega arith

next : (k : ℕ) → suc k ≡ k + 1
next k = omega arith

pub search-requires : goal.search-requires
search-requires t c =
    let p =
    put_of c.args.rules.now (shape_of (low_of c.args.space.now)) c.args.bounds.now c.args.space.now c.loop-value.space (record { low = c.set_number.new.rows; high = c.set_number-in-loop-value.new.rows }) c.args.k c.loop-value.value c.index.result.now c.requires.bounds c.loop-value.invariant.0 (omega arith) c.index.ensures (omega arith)
    c.set_number.ensures.numbers c.set_number.ensures.shape c.set_number-in-loop-value.ensures.numbers c.set_number-in-loop-value.ensures.shape in
    let s = sym (put_low p).shape_is in (
      omega (arith, c.decreases, p.place),
      (
        subst (λ z. AreBounds z c.args.bounds.now) s c.requires.bounds,
        (
          at_shape s (next c.args.k) (put_next p),
          (
            omega (arith, p.place),
            (
              c.requires.measurable,
              λ e. let q = c.loop-value.invariant.1 e in start_shape s (next c.args.k) (put_start p (c.requires.start q.0) q.1),
            ),
          ),
        ),
      ),
    )

pub returns-then-search : goal.returns-then-search
returns-then-search t c =
    let p =
    put_of c.args.rules.now (shape_of (low_of c.args.space.now)) c.args.bounds.now c.args.space.now c.loop-value.space (record { low = c.set_number.new.rows; high = c.set_number-in-loop-value.new.rows }) c.args.k c.loop-value.value c.index.result.now c.requires.bounds c.loop-value.invariant.0 (omega arith) c.index.ensures (omega arith)
    c.set_number.ensures.numbers c.set_number.ensures.shape c.set_number-in-loop-value.ensures.numbers c.set_number-in-loop-value.ensures.shape in
    put_found p c.search.new.space (searched_shape c.args.rules.now c.args.bounds.now (record { low = c.set_number.new.rows; high = c.set_number-in-loop-value.new.rows }) c.search.new.space (put_low p).shape_is (sym (next c.args.k)) c.if-search.true c.search.ensures)

pub loop-value-preserved : goal.loop-value-preserved
loop-value-preserved t c =
    let p =
    put_of c.args.rules.now (shape_of (low_of c.args.space.now)) c.args.bounds.now c.args.space.now c.loop-value.space (record { low = c.set_number.new.rows; high = c.set_number-in-loop-value.new.rows }) c.args.k c.loop-value.value c.index.result.now c.requires.bounds c.loop-value.invariant.0 (omega arith) c.index.ensures (omega arith)
    c.set_number.ensures.numbers c.set_number.ensures.shape c.set_number-in-loop-value.ensures.numbers c.set_number-in-loop-value.ensures.shape in (
      put_none p c.search.new.space (searched_shape c.args.rules.now c.args.bounds.now (record { low = c.set_number.new.rows; high = c.set_number-in-loop-value.new.rows }) c.search.new.space (put_low p).shape_is (sym (next c.args.k)) c.if-search.false c.search.ensures),
      λ e. absurd (false≢true e),
    )

pub set_number-requires-2 : goal.set_number-requires-2
set_number-requires-2 t c =
    let e = member_length (shape_of (low_of c.args.space.now)) c.args.bounds.now (low_of c.loop-value.space) c.loop-value.invariant.0.low_member in omega arith

pub index-requires-3 : goal.index-requires-3
index-requires-3 t c =
    let b = c.args.bounds.now in
    let n = within_lengths b.least.items b.most.items b.least.items c.requires.bounds.least_within in
    omega arith

pub set_number-requires-3 : goal.set_number-requires-3
set_number-requires-3 t c =
    let e = member_length (shape_of (low_of c.args.space.now)) c.args.bounds.now (high_of c.loop-value.space) c.loop-value.invariant.0.high_member in omega arith

pub returns : goal.returns
returns t c =
    let space = c.args.space.now in
    let b = c.args.bounds.now in
    let n = within_lengths b.least.items b.most.items b.least.items c.requires.bounds.least_within in
    let r = read_at b.most.items c.args.k c.index.result.now (omega arith) c.index.ensures in
    let l = read_at b.least.items c.args.k c.index-2.result.now (omega arith) c.index-2.ensures in
    let m = read_at b.most.items c.args.k c.index-3.result.now (omega arith) c.index-3.ensures in
    tried_all c.args.rules.now (shape_of (low_of space)) b space c.loop-value.space (record { low = c.set_number-2.new.rows; high = c.set_number-3.new.rows }) c.args.k c.loop-value.value c.index-2.result.now c.index-3.result.now
    c.requires.at c.loop-value.invariant.0 (omega arith) (omega arith) (sym l) (sym m)
    (record { numbers = c.set_number-2.ensures.numbers; shape = c.set_number-2.ensures.shape })
    (record { numbers = c.set_number-3.ensures.numbers; shape = c.set_number-3.ensures.shape })

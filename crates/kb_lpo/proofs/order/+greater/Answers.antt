use Rattle.std.proofs.Common.{ap, sym, ◌∙◌, subst, ◌+◌, ◌≤◌, ◌⊎◌, arith, map, ◌≡◌, length, inl, inr}
use Rattle.std.proofs.lemmas.List.{length-map}
use Rattle.std.proofs.lemmas.Bool.{false≢true}
use Rattle.kb_lemmas.proofs.Booleans.{fails}
use Rattle.kb_term.specs.Tree.{trees_of}
use Rattle.kb_term.specs.View.{tree_of}
use Rattle.kb_lpo.specs.PathOrder.{LpoGreater}
use Rattle.kb_lpo.specs.Agreeing.{IsNoWitness}
use Rattle.kb_lpo.specs.Search.{numbers}
use Rattle.kb_lpo.proofs.Places.{at_from, between_more}
use Rattle.kb_lpo.proofs.Exact.{above_variable, variable_above, not_both_ways}
use Rattle.kb_lpo.proofs.Cases.{each_above, above_by_symbol, above_by_witness, witness_needed, above_by_difference, witness_after_difference, witness_after_end}
use Rattle.kb_lpo.proofs.Answering.{answers, ends, form, holds, member_size, no, part_smaller, same_index, yes}
use Rattle.kb_lpo.proofs.order.+greater.Goals as goal

pub greater-greater-requires : goal.greater-greater-requires
greater-greater-requires t c =
    let a = part_smaller c.args.s.now c.in-App-App.f c.in-App-App.front c.items-ss.result.now c.agreement-n.result c.index-ss-n.result c.in-App-App.is-0 c.items-ss.ensures (grind arith) c.index-ss-n.is in
    let b = part_smaller c.args.t.now c.in-App-App.g c.in-App-App.back c.items-ts.result.now c.agreement-n.result c.index-ts-n.result c.in-App-App.is-1 c.items-ts.ensures (grind arith) c.index-ts-n.is in
    (omega (arith, c.decreases, a, b), tt)

pub greater-returns-then-greater : goal.greater-returns-then-greater
greater-returns-then-greater t c =
    let p = numbers c.args.symbols.now in
    let f = c.in-App-App.f in
    let g = c.in-App-App.g in
    let ss = c.items-ss.result.now in
    let ts = c.items-ts.result.now in
    let n = c.agreement-n.result in
    let es = form c.args.s.now f c.in-App-App.front ss c.in-App-App.is-0 c.items-ss.ensures in
    let et = form c.args.t.now g c.in-App-App.back ts c.in-App-App.is-1 c.items-ts.ensures in
    let e : f.0 ≡ g.0 = grind arith in
    let lt = length-map ts tree_of in
    answers c.is_above_each.result c.is_above_each.ensures
    (above_by_difference p (tree_of c.args.s.now) (tree_of c.args.t.now) f.0 g.0 (map tree_of ss) (map tree_of ts) es et n (length ts) (tree_of c.index-ss-n.result) (tree_of c.index-ts-n.result) e c.agreement-n.ensures (at_from ss n c.index-ss-n.result (grind arith) c.index-ss-n.is) (at_from ts n c.index-ts-n.result (grind arith) c.index-ts-n.is) (yes c.greater.ensures c.if-greater.true) (omega arith))
    (each_above p (tree_of c.args.s.now) (tree_of c.args.t.now) f.0 g.0 (map tree_of ss) (map tree_of ts) es et (n + 1) (length ts))

pub greater-returns-then-n-ts : goal.greater-returns-then-n-ts
greater-returns-then-n-ts t c =
    let p = numbers c.args.symbols.now in
    let f = c.in-App-App.f in
    let g = c.in-App-App.g in
    let ss = c.items-ss.result.now in
    let ts = c.items-ts.result.now in
    let n = c.agreement-n.result in
    let es = form c.args.s.now f c.in-App-App.front ss c.in-App-App.is-0 c.items-ss.ensures in
    let et = form c.args.t.now g c.in-App-App.back ts c.in-App-App.is-1 c.items-ts.ensures in
    let e : f.0 ≡ g.0 = grind arith in
    answers c.is_reached.result c.is_reached.ensures
    (above_by_witness p (tree_of c.args.s.now) (tree_of c.args.t.now) f.0 g.0 (map tree_of ss) (map tree_of ts) es et (n + 1))
    (witness_after_difference p (tree_of c.args.s.now) (tree_of c.args.t.now) f.0 g.0 (map tree_of ss) (map tree_of ts) es et n (tree_of c.index-ss-n.result) (tree_of c.index-ts-n.result) e c.agreement-n.ensures (at_from ss n c.index-ss-n.result (grind arith) c.index-ss-n.is) (at_from ts n c.index-ts-n.result (grind arith) c.index-ts-n.is) (no c.greater.ensures c.if-greater.false))

pub greater-returns-else-n-ss : goal.greater-returns-else-n-ss
greater-returns-else-n-ss t c =
    let p = numbers c.args.symbols.now in
    let f = c.in-App-App.f in
    let g = c.in-App-App.g in
    let ss = c.items-ss.result.now in
    let ts = c.items-ts.result.now in
    let n = c.agreement-n.result in
    let es = form c.args.s.now f c.in-App-App.front ss c.in-App-App.is-0 c.items-ss.ensures in
    let et = form c.args.t.now g c.in-App-App.back ts c.in-App-App.is-1 c.items-ts.ensures in
    let e : f.0 ≡ g.0 = grind arith in
    let end : (length (map tree_of ss) ≤ n) ⊎ (length (map tree_of ts) ≤ n) = ends ss ts n (grind arith) in
    answers c.is_reached-then-eq.result c.is_reached-then-eq.ensures
    (above_by_witness p (tree_of c.args.s.now) (tree_of c.args.t.now) f.0 g.0 (map tree_of ss) (map tree_of ts) es et n)
    (witness_after_end p (tree_of c.args.s.now) (tree_of c.args.t.now) f.0 g.0 (map tree_of ss) (map tree_of ts) es et n e c.agreement-n.ensures end)

pub greater-returns-then-is_above : goal.greater-returns-then-is_above
greater-returns-then-is_above t c =
    let p = numbers c.args.symbols.now in
    let f = c.in-App-App.f in
    let g = c.in-App-App.g in
    let ss = c.items-ss.result.now in
    let ts = c.items-ts.result.now in
    let es = form c.args.s.now f c.in-App-App.front ss c.in-App-App.is-0 c.items-ss.ensures in
    let et = form c.args.t.now g c.in-App-App.back ts c.in-App-App.is-1 c.items-ts.ensures in
    let lt = length-map ts tree_of in
    answers c.is_above_each-then-is_above.result c.is_above_each-then-is_above.ensures
    (above_by_symbol p (tree_of c.args.s.now) (tree_of c.args.t.now) f.0 g.0 (map tree_of ss) (map tree_of ts) es et (length ts) (yes c.is_above.ensures c.if-is_above.true) (omega arith))
    (each_above p (tree_of c.args.s.now) (tree_of c.args.t.now) f.0 g.0 (map tree_of ss) (map tree_of ts) es et 0 (length ts))

pub greater-returns-else-is_above : goal.greater-returns-else-is_above
greater-returns-else-is_above t c =
    let p = numbers c.args.symbols.now in
    let f = c.in-App-App.f in
    let g = c.in-App-App.g in
    let ss = c.items-ss.result.now in
    let ts = c.items-ts.result.now in
    let es = form c.args.s.now f c.in-App-App.front ss c.in-App-App.is-0 c.items-ss.ensures in
    let et = form c.args.t.now g c.in-App-App.back ts c.in-App-App.is-1 c.items-ts.ensures in
    let d : ¬ (f.0 ≡ g.0) = λ q. false≢true (grind arith) in
    answers c.is_reached-else-is_above.result c.is_reached-else-is_above.ensures
    (above_by_witness p (tree_of c.args.s.now) (tree_of c.args.t.now) f.0 g.0 (map tree_of ss) (map tree_of ts) es et 0)
    (witness_needed p (tree_of c.args.s.now) (tree_of c.args.t.now) f.0 g.0 (map tree_of ss) (map tree_of ts) es et d (no c.is_above.ensures c.if-is_above.false))

pub greater-returns-in-App-Var : goal.greater-returns-in-App-Var
greater-returns-in-App-Var t c =
    let p = numbers c.args.symbols.now in
    let n = c.in-App-Var.n in
    let et = ap tree_of c.in-App-Var.is-1 in
    (λ r. subst (LpoGreater p (tree_of c.args.s.now)) (sym et) (above_variable p (tree_of c.args.s.now) c.in-App-Var.field-0-0.0 n (trees_of c.in-App-Var.field-1-0) (ap tree_of c.in-App-Var.is-0) (c.occurs.ensures.0 r)), λ l. c.occurs.ensures.1 (variable_above p (tree_of c.args.s.now) n (subst (LpoGreater p (tree_of c.args.s.now)) et l)))

pub is_above_each-greater-requires : goal.is_above_each-greater-requires
is_above_each-greater-requires t c =
    let a = member_size c.args.ts.now c.loop-j.j c.index-ts-j.result (grind arith) c.index-ts-j.is in
    (omega (arith, c.decreases, a), tt)

pub is_above_each-returns-then-not-greater : goal.is_above_each-returns-then-not-greater
is_above_each-returns-then-not-greater t c =
    fails (λ b. no c.greater.ensures c.if-not-greater.true (b c.loop-j.j (tree_of c.index-ts-j.result) (grind arith) (grind arith) (at_from c.args.ts.now c.loop-j.j c.index-ts-j.result (grind arith) c.index-ts-j.is)))

pub is_above_each-loop-j-preserved : goal.is_above_each-loop-j-preserved
is_above_each-loop-j-preserved t c =
    between_more (λ u. LpoGreater (numbers c.args.symbols.now) (tree_of c.args.s.now) u) (map tree_of c.args.ts.now) c.args.from c.loop-j.j (tree_of c.index-ts-j.result) (at_from c.args.ts.now c.loop-j.j c.index-ts-j.result (grind arith) c.index-ts-j.is) (yes c.greater.ensures c.if-not-greater.false) c.loop-j.invariant

pub is_reached-greater-requires : goal.is_reached-greater-requires
is_reached-greater-requires t c =
    let a = member_size c.args.ss.now c.loop-k.k c.index-ss-k-in-loop-k.result (grind arith) c.index-ss-k-in-loop-k.is in
    (omega (arith, c.decreases, a), tt)

pub is_reached-returns-then-is_same : goal.is_reached-returns-then-is_same
is_reached-returns-then-is_same t c =
    holds (c.loop-k.k, tree_of c.index-ss-k.result, grind arith, at_from c.args.ss.now c.loop-k.k c.index-ss-k.result (grind arith) c.index-ss-k.is, inl (yes c.is_same.ensures c.if-is_same.true))

pub is_reached-returns-then-greater : goal.is_reached-returns-then-greater
is_reached-returns-then-greater t c =
    holds (c.loop-k.k, tree_of c.index-ss-k-in-loop-k.result, grind arith, at_from c.args.ss.now c.loop-k.k c.index-ss-k-in-loop-k.result (grind arith) c.index-ss-k-in-loop-k.is, inr (yes c.greater.ensures c.if-greater.true))

pub is_reached-loop-k-preserved : goal.is_reached-loop-k-preserved
is_reached-loop-k-preserved t c =
    let items = c.args.ss.now in
    let k = c.loop-k.k in
    between_more (IsNoWitness (numbers c.args.symbols.now) (tree_of c.args.t.now)) (map tree_of items) c.args.from k (tree_of c.index-ss-k-in-loop-k.result) (at_from items k c.index-ss-k-in-loop-k.result (grind arith) c.index-ss-k-in-loop-k.is)
    ((λ q. no c.is_same.ensures c.if-is_same.false (ap tree_of (same_index items k c.index-ss-k.result c.index-ss-k-in-loop-k.result (grind arith) c.index-ss-k.is c.index-ss-k-in-loop-k.is) ∙ q)), no c.greater.ensures c.if-greater.false) c.loop-k.invariant

pub is_reached-returns : goal.is_reached-returns
is_reached-returns t c =
    let l = length-map c.args.ss.now tree_of in
    fails (λ w. not_both_ways (numbers c.args.symbols.now) (tree_of c.args.t.now) (map tree_of c.args.ss.now) c.args.from c.loop-k.k (omega (arith, c.loop-k-test.false)) w c.loop-k.invariant)

use Rattle.std.proofs.Common.{ap, ◌≡◌, arith, map, inl, inr}
use Rattle.std.proofs.lemmas.Bool.{false≢true}
use Rattle.std.proofs.lemmas.List.{length-map}
use Rattle.kb_lemmas.proofs.Booleans.{fails}
use Rattle.kb_term.specs.Tree.{trees_of}
use Rattle.kb_term.specs.View.{tree_of}
use Rattle.kb_lpo.proofs.Places.{at_from}
use Rattle.kb_lpo.proofs.Answering.{answers, form, holds, no, part_smaller, yes}
use Rattle.kb_kbo.specs.KnuthBendix.{weight, heavier}
use Rattle.kb_lpo.specs.Search.{numbers}
use Rattle.kb_kbo.specs.Measures.{order_of}
use Rattle.kb_kbo.proofs.Compared.{greater_holds, greater_weighs, not_variable, symbol_decides, arguments_decide, difference_within, difference_above, above_at, above_by_symbol}
use Rattle.kb_kbo.proofs.Counts.{argument_measurable}
use Rattle.kb_kbo.proofs.order.+greater.Goals as goal

pub returns-then-left-right : goal.returns-then-left-right
returns-then-left-right t c =
    let p = numbers c.args.symbols.now in
    fails (λ g. omega (arith, greater_weighs (order_of c.args.weights.now p) g, c.weight_of-left.ensures.weight p, c.weight_of-right.ensures.weight p, c.if-left-right.true))

pub returns-then-not-holds_variables : goal.returns-then-not-holds_variables
returns-then-not-holds_variables t c = fails (λ g. no c.holds_variables.ensures c.if-not-holds_variables.true (greater_holds (order_of c.args.weights.now (numbers c.args.symbols.now)) g))

pub returns-then-left-right-2 : goal.returns-then-left-right-2
returns-then-left-right-2 t c =
    let p = numbers c.args.symbols.now in
    holds (heavier (yes c.holds_variables.ensures c.if-not-holds_variables.false) (omega (arith, c.weight_of-left.ensures.weight p, c.weight_of-right.ensures.weight p, c.if-left-right-2.true)))

pub returns-then-ne : goal.returns-then-ne
returns-then-ne t c =
    let p = numbers c.args.symbols.now in
    let o = order_of c.args.weights.now p in
    let f = c.in-App-App.f in
    let g = c.in-App-App.g in
    let w : weight o (tree_of c.args.s.now) ≡ weight o (tree_of c.args.t.now) = omega (arith, c.weight_of-left.ensures.weight p, c.weight_of-right.ensures.weight p, c.if-left-right.false, c.if-left-right-2.false) in
    let es = ap tree_of c.in-App-App.is-0 in
    let et = ap tree_of c.in-App-App.is-1 in
    answers c.is_above.result c.is_above.ensures
    (above_by_symbol o f.0 g.0 (trees_of c.in-App-App.front) (trees_of c.in-App-App.back) (tree_of c.args.s.now) (tree_of c.args.t.now) es et (yes c.holds_variables.ensures c.if-not-holds_variables.false) w)
    (λ l. symbol_decides o f.0 g.0 (trees_of c.in-App-App.front) (trees_of c.in-App-App.back) l es et w (λ q. false≢true (grind arith)))

pub greater-requires : goal.greater-requires
greater-requires t c =
    let f = c.in-App-App.f in
    let g = c.in-App-App.g in
    let ss = c.items-ss.result.now in
    let ts = c.items-ts.result.now in
    let n = c.agreement-n.result in
    let es = form c.args.s.now f c.in-App-App.front ss c.in-App-App.is-0 c.items-ss.ensures in
    let et = form c.args.t.now g c.in-App-App.back ts c.in-App-App.is-1 c.items-ts.ensures in
    let a = part_smaller c.args.s.now f c.in-App-App.front ss n c.index-ss-n.result c.in-App-App.is-0 c.items-ss.ensures (grind arith) c.index-ss-n.is in (
      omega (arith, c.decreases, a),
      (
        c.requires.weights,
        (
          argument_measurable (tree_of c.args.s.now) f.0 ss n c.index-ss-n.result es (grind arith) c.index-ss-n.is c.requires.left,
          argument_measurable (tree_of c.args.t.now) g.0 ts n c.index-ts-n.result et (grind arith) c.index-ts-n.is c.requires.right,
        ),
      ),
    )

pub returns-then-n-ts : goal.returns-then-n-ts
returns-then-n-ts t c =
    let p = numbers c.args.symbols.now in
    let o = order_of c.args.weights.now p in
    let f = c.in-App-App.f in
    let g = c.in-App-App.g in
    let ss = c.items-ss.result.now in
    let ts = c.items-ts.result.now in
    let n = c.agreement-n.result in
    let es = form c.args.s.now f c.in-App-App.front ss c.in-App-App.is-0 c.items-ss.ensures in
    let et = form c.args.t.now g c.in-App-App.back ts c.in-App-App.is-1 c.items-ts.ensures in
    let w : weight o (tree_of c.args.s.now) ≡ weight o (tree_of c.args.t.now) = omega (arith, c.weight_of-left.ensures.weight p, c.weight_of-right.ensures.weight p, c.if-left-right.false, c.if-left-right-2.false) in
    let e : f.0 ≡ g.0 = grind arith in
    let a = at_from ss n c.index-ss-n.result (grind arith) c.index-ss-n.is in
    let b = at_from ts n c.index-ts-n.result (grind arith) c.index-ts-n.is in
    answers c.greater.result c.greater.ensures
    (above_at o f.0 g.0 (map tree_of ss) (map tree_of ts) n (tree_of c.args.s.now) (tree_of c.args.t.now) (tree_of c.index-ss-n.result) (tree_of c.index-ts-n.result) es et e (yes c.holds_variables.ensures c.if-not-holds_variables.false) w c.agreement-n.ensures a b)
    (λ l. difference_above o (map tree_of ss) (map tree_of ts) n (tree_of c.index-ss-n.result) (tree_of c.index-ts-n.result) (arguments_decide o f.0 g.0 (map tree_of ss) (map tree_of ts) l es et w e) c.agreement-n.ensures a b)

pub returns-else-n-ss : goal.returns-else-n-ss
returns-else-n-ss t c =
    let p = numbers c.args.symbols.now in
    let o = order_of c.args.weights.now p in
    let f = c.in-App-App.f in
    let g = c.in-App-App.g in
    let ss = c.items-ss.result.now in
    let ts = c.items-ts.result.now in
    let n = c.agreement-n.result in
    let es = form c.args.s.now f c.in-App-App.front ss c.in-App-App.is-0 c.items-ss.ensures in
    let et = form c.args.t.now g c.in-App-App.back ts c.in-App-App.is-1 c.items-ts.ensures in
    let w : weight o (tree_of c.args.s.now) ≡ weight o (tree_of c.args.t.now) = omega (arith, c.weight_of-left.ensures.weight p, c.weight_of-right.ensures.weight p, c.if-left-right.false, c.if-left-right-2.false) in
    let e : f.0 ≡ g.0 = grind arith in
    fails (λ l. let h = difference_within o (map tree_of ss) (map tree_of ts) n (arguments_decide o f.0 g.0 (map tree_of ss) (map tree_of ts) l es et w e) c.agreement-n.ensures in let i = length-map ss tree_of in let j = length-map ts tree_of in grind (arith, h, i, j))

pub returns-in_default : goal.returns-in_default
returns-in_default t c =
    let p = numbers c.args.symbols.now in
    let o = order_of c.args.weights.now p in
    let w : weight o (tree_of c.args.s.now) ≡ weight o (tree_of c.args.t.now) = omega (arith, c.weight_of-left.ensures.weight p, c.weight_of-right.ensures.weight p, c.if-left-right.false, c.if-left-right-2.false) in
    fails (λ l. not_variable o c.in_default.field-0-1 l w (inr (ap tree_of c.in_default.is-1)))

pub returns-in_default-2 : goal.returns-in_default-2
returns-in_default-2 t c =
    let p = numbers c.args.symbols.now in
    let o = order_of c.args.weights.now p in
    let w : weight o (tree_of c.args.s.now) ≡ weight o (tree_of c.args.t.now) = omega (arith, c.weight_of-left.ensures.weight p, c.weight_of-right.ensures.weight p, c.if-left-right.false, c.if-left-right-2.false) in
    fails (λ l. not_variable o c.in_default.field-0-0 l w (inl (ap tree_of c.in_default.is-0)))

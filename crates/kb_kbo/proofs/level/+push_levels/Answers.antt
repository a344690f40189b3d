use Rattle.std.proofs.Common.{sym, ◌≡◌, arith, map, subst, []}
use Rattle.std.proofs.lemmas.Result.{IfOk-weaker}
use Rattle.std.proofs.lemmas.List.{length-map}
use Rattle.kb_term.specs.View.{tree_of}
use Rattle.kb_lpo.proofs.Places.{at_from}
use Rattle.kb_lpo.proofs.Answering.{form, part_smaller}
use Rattle.kb_kbo.specs.Asking.{AreAsked, Asks, AsksAtTie}
use Rattle.kb_kbo.proofs.Compared.{arguments_decide, difference_within, difference_above}
use Rattle.kb_kbo.proofs.Counts.{argument_measurable}
use Rattle.kb_kbo.proofs.Levels.{level_asks, asked_one, asked_next, asked_skip}
use Rattle.kb_kbo.proofs.level.+push_levels.Goals as goal

pub push_levels-requires : goal.push_levels-requires
push_levels-requires t c =
    let f = c.in-App-App.f in
    let g = c.in-App-App.g in
    let ss = c.items-ss.result.now in
    let ts = c.items-ts.result.now in
    let n = c.agreement-n.result in
    let es = form c.args.s.now f c.in-App-App.front ss c.in-App-App.is-0 c.items-ss.ensures in
    let et = form c.args.t.now g c.in-App-App.back ts c.in-App-App.is-1 c.items-ts.ensures in
    let a = part_smaller c.args.s.now f c.in-App-App.front ss n c.index-ss-n.result c.in-App-App.is-0 c.items-ss.ensures (grind arith) c.index-ss-n.is in (
      omega (arith, c.decreases, a),
      (
        argument_measurable (tree_of c.args.s.now) f.0 ss n c.index-ss-n.result es (grind arith) c.index-ss-n.is c.requires.left,
        argument_measurable (tree_of c.args.t.now) g.0 ts n c.index-ts-n.result et (grind arith) c.index-ts-n.is c.requires.right,
      ),
    )

pub push_levels-requires-then-n-ts : goal.push_levels-requires-then-n-ts
push_levels-requires-then-n-ts t c =
    let f = c.in-App-App.f in
    let g = c.in-App-App.g in
    let ss = c.items-ss.result.now in
    let ts = c.items-ts.result.now in
    let n = c.agreement-n.result in
    let es = form c.args.s.now f c.in-App-App.front ss c.in-App-App.is-0 c.items-ss.ensures in
    let et = form c.args.t.now g c.in-App-App.back ts c.in-App-App.is-1 c.items-ts.ensures in
    let a = part_smaller c.args.s.now f c.in-App-App.front ss n c.index-ss-n-then-n-ts.result c.in-App-App.is-0 c.items-ss.ensures (grind arith) c.index-ss-n-then-n-ts.is in (
      omega (arith, c.decreases, a),
      (
        argument_measurable (tree_of c.args.s.now) f.0 ss n c.index-ss-n-then-n-ts.result es (grind arith) c.index-ss-n-then-n-ts.is c.requires.left,
        argument_measurable (tree_of c.args.t.now) g.0 ts n c.index-ts-n-then-n-ts.result et (grind arith) c.index-ts-n-then-n-ts.is c.requires.right,
      ),
    )

pub returns-then-is_even : goal.returns-then-is_even
returns-then-is_even t c =
    let f = c.in-App-App.f in
    let g = c.in-App-App.g in
    let ss = c.items-ss.result.now in
    let ts = c.items-ts.result.now in
    let n = c.agreement-n.result in
    let u = tree_of c.index-ss-n.result in
    let v = tree_of c.index-ts-n.result in
    let es = form c.args.s.now f c.in-App-App.front ss c.in-App-App.is-0 c.items-ss.ensures in
    let et = form c.args.t.now g c.in-App-App.back ts c.in-App-App.is-1 c.items-ts.ensures in
    let e : f.0 ≡ g.0 = grind arith in
    let a = at_from ss n c.index-ss-n.result (grind arith) c.index-ss-n.is in
    let b = at_from ts n c.index-ts-n.result (grind arith) c.index-ts-n.is in
    let level = c.new-level.result in
    IfOk-weaker _ (λ _. AreAsked _ _ u v) (λ _. AreAsked _ _ (tree_of c.args.s.now) (tree_of c.args.t.now))
    (λ _ h. asked_skip _ _ level (tree_of c.args.s.now) (tree_of c.args.t.now) u v c.new-level.ensures.weights (c.is_even.ensures c.if-is_even.true)
    (λ order k w. difference_above order (map tree_of ss) (map tree_of ts) n u v (arguments_decide order f.0 g.0 (map tree_of ss) (map tree_of ts) k es et w e) c.agreement-n.ensures a b) h)
    c.push_levels.ensures

pub returns-then-n-ts : goal.returns-then-n-ts
returns-then-n-ts t c =
    let f = c.in-App-App.f in
    let g = c.in-App-App.g in
    let ss = c.items-ss.result.now in
    let ts = c.items-ts.result.now in
    let n = c.agreement-n.result in
    let u = tree_of c.index-ss-n-then-n-ts.result in
    let v = tree_of c.index-ts-n-then-n-ts.result in
    let es = form c.args.s.now f c.in-App-App.front ss c.in-App-App.is-0 c.items-ss.ensures in
    let et = form c.args.t.now g c.in-App-App.back ts c.in-App-App.is-1 c.items-ts.ensures in
    let e : f.0 ≡ g.0 = grind arith in
    let a = at_from ss n c.index-ss-n-then-n-ts.result (grind arith) c.index-ss-n-then-n-ts.is in
    let b = at_from ts n c.index-ts-n-then-n-ts.result (grind arith) c.index-ts-n-then-n-ts.is in
    let level = c.new-level.result in
    IfOk-weaker _ (λ _. AreAsked _ _ u v) (λ _. AreAsked _ _ (tree_of c.args.s.now) (tree_of c.args.t.now))
    (λ _ h. asked_next _ _ _ level (tree_of c.args.s.now) (tree_of c.args.t.now) u v c.in_ok-push-in-App-App-2.ensures.items h
    (λ order l k more q. level_asks order level more (tree_of c.args.s.now) (tree_of c.args.t.now) (c.new-level.ensures.weights order l) k
    (λ w. subst (λ z. AsksAtTie order z (Asks order more)) (sym c.new-level.ensures.tie) (q (difference_above order (map tree_of ss) (map tree_of ts) n u v (arguments_decide order f.0 g.0 (map tree_of ss) (map tree_of ts) k es et w e) c.agreement-n.ensures a b)))))
    c.push_levels-then-n-ts.ensures

pub returns-in_ok-push-in-App-App-3 : goal.returns-in_ok-push-in-App-App-3
returns-in_ok-push-in-App-App-3 t c =
    let f = c.in-App-App.f in
    let g = c.in-App-App.g in
    let ss = c.items-ss.result.now in
    let ts = c.items-ts.result.now in
    let n = c.agreement-n.result in
    let es = form c.args.s.now f c.in-App-App.front ss c.in-App-App.is-0 c.items-ss.ensures in
    let et = form c.args.t.now g c.in-App-App.back ts c.in-App-App.is-1 c.items-ts.ensures in
    let e : f.0 ≡ g.0 = grind arith in
    let level = c.new-in-App-App.result in
    asked_one _ _ level (tree_of c.args.s.now) (tree_of c.args.t.now) c.in_ok-push-in-App-App-3.ensures.items
    (λ order l k. level_asks order level [] (tree_of c.args.s.now) (tree_of c.args.t.now) (c.new-in-App-App.ensures.weights order l) k
    (λ w. absurd (let h = difference_within order (map tree_of ss) (map tree_of ts) n (arguments_decide order f.0 g.0 (map tree_of ss) (map tree_of ts) k es et w e) c.agreement-n.ensures in let i = length-map ss tree_of in let j = length-map ts tree_of in grind (arith, h, i, j))))

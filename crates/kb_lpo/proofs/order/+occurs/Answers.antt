use Rattle.std.proofs.Common.{arith, subst, sym, map, Contains}
use Rattle.std.proofs.lemmas.List.{length-map}
use Rattle.kb_lemmas.proofs.Booleans.{fails}
use Rattle.kb_term.specs.Tree.{variables_of}
use Rattle.kb_term.specs.View.{tree_of}
use Rattle.kb_lpo.proofs.Places.{at_from, between_more}
use Rattle.kb_lpo.proofs.Answering.{yes, no, holds, form, part_smaller, occurs_at, occurs_nowhere}
use Rattle.kb_lpo.proofs.order.+occurs.Goals as goal

pub occurs-requires : goal.occurs-requires
occurs-requires t c =
    let a = part_smaller c.args.t.now c.in-App.field-0 c.in-App.arguments c.items-items.result.now c.loop-i.i c.index-items-i.result c.in-App.is c.items-items.ensures (grind arith) c.index-items-i.is in
    (omega (arith, c.decreases, a), tt)

pub returns-then-occurs : goal.returns-then-occurs
returns-then-occurs t c =
    let e = form c.args.t.now c.in-App.field-0 c.in-App.arguments c.items-items.result.now c.in-App.is c.items-items.ensures in
    let a = at_from c.items-items.result.now c.loop-i.i c.index-items-i.result (grind arith) c.index-items-i.is in
    holds (subst (λ z. Contains (variables_of z) c.args.x) (sym e) (occurs_at c.in-App.field-0.0 c.loop-i.i c.args.x (map tree_of c.items-items.result.now) (tree_of c.index-items-i.result) a (yes c.occurs.ensures c.if-occurs.true)))

pub loop-i-preserved : goal.loop-i-preserved
loop-i-preserved t c =
    let a = at_from c.items-items.result.now c.loop-i.i c.index-items-i.result (grind arith) c.index-items-i.is in
    between_more (λ u. ¬ Contains (variables_of u) c.args.x) (map tree_of c.items-items.result.now) 0 c.loop-i.i (tree_of c.index-items-i.result) a (no c.occurs.ensures c.if-occurs.false) c.loop-i.invariant

pub returns-after-loop-i : goal.returns-after-loop-i
returns-after-loop-i t c =
    let e = form c.args.t.now c.in-App.field-0 c.in-App.arguments c.items-items.result.now c.in-App.is c.items-items.ensures in
    let l = length-map c.items-items.result.now tree_of in
    fails (λ h. occurs_nowhere c.in-App.field-0.0 c.loop-i.i c.args.x (map tree_of c.items-items.result.now) (omega (arith, l, c.loop-i-test.false)) c.loop-i.invariant (subst (λ z. Contains (variables_of z) c.args.x) e h))

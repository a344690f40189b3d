use Rattle.std.proofs.Common.{arith, subst, sym, map, Contains}
use Rattle.std.proofs.lemmas.List.{length-map}
use Rattle.kb_term.specs.Tree.{symbols_of}
use Rattle.kb_term.specs.View.{tree_of}
use Rattle.kb_lpo.proofs.Places.{at_from, between_more}
use Rattle.kb_lpo.proofs.Answering.{yes, no, holds, form, part_smaller}
use Rattle.kb_lpo.proofs.Symbols.{symbol_at, symbol_nowhere}
use Rattle.std.proofs.lemmas.Bool.{false≢true}
use Rattle.kb_lemmas.proofs.Booleans.{fails}
use Rattle.kb_lpo.proofs.order.+has_symbol.Goals as goal

pub has_symbol-requires : goal.has_symbol-requires
has_symbol-requires t c =
    let a = part_smaller c.args.t.now c.in-App.g c.in-App.arguments c.items-items.result.now c.loop-i.i c.index-items-i.result c.in-App.is c.items-items.ensures (grind arith) c.index-items-i.is in
    (omega (arith, c.decreases, a), tt)

pub returns-then-has_symbol : goal.returns-then-has_symbol
returns-then-has_symbol t c =
    let e = form c.args.t.now c.in-App.g c.in-App.arguments c.items-items.result.now c.in-App.is c.items-items.ensures in
    let a = at_from c.items-items.result.now c.loop-i.i c.index-items-i.result (grind arith) c.index-items-i.is in
    holds (subst (λ z. Contains (symbols_of z) c.args.f.0) (sym e) (symbol_at c.in-App.g.0 c.loop-i.i c.args.f.0 (map tree_of c.items-items.result.now) (tree_of c.index-items-i.result) a (yes c.has_symbol.ensures c.if-has_symbol.true)))

pub loop-i-preserved : goal.loop-i-preserved
loop-i-preserved t c =
    let a = at_from c.items-items.result.now c.loop-i.i c.index-items-i.result (grind arith) c.index-items-i.is in
    between_more (λ u. ¬ Contains (symbols_of u) c.args.f.0) (map tree_of c.items-items.result.now) 0 c.loop-i.i (tree_of c.index-items-i.result) a (no c.has_symbol.ensures c.if-has_symbol.false) c.loop-i.invariant

pub returns-after-loop-i : goal.returns-after-loop-i
returns-after-loop-i t c =
    let e = form c.args.t.now c.in-App.g c.in-App.arguments c.items-items.result.now c.in-App.is c.items-items.ensures in
    let l = length-map c.items-items.result.now tree_of in
    fails (λ h. symbol_nowhere c.in-App.g.0 c.loop-i.i c.args.f.0 (map tree_of c.items-items.result.now) (omega (arith, l, c.loop-i-test.false)) (λ q. false≢true (grind arith)) c.loop-i.invariant (subst (λ z. Contains (symbols_of z) c.args.f.0) e h))

use Rattle.std.proofs.Common.{arith, ◌≡◌, ◌<◌, ◌∙◌, sym, ap, length, refl, below_more}
use Rattle.std.specs.Prelude.{map}
use Rattle.kb_term.specs.Tree.{tree_depth, trees_of, apply, variable}
use Rattle.kb_term.specs.View.{tree_of}
use Rattle.kb_term.proofs.Arguments.{argument-is, argument-depth, arguments-length}
use Rattle.kb_rewrite.proofs.Positions.{encompasses_root, encompasses_variable, encompasses_in, encompasses_none, matches_same, encompasses_same, false_true}
use Rattle.kb_rewrite.proofs.encompassing.+encompasses.Goals as goal

pub returns-then-branch : goal.returns-then-branch
returns-then-branch t c = ((λ e. encompasses_root (tree_of c.args.t.now) (tree_of c.args.pattern.now) (c.in_ok-matches.ensures.0 c.if-branch.true)), λ h. refl)

pub encompasses-requires : goal.encompasses-requires
encompasses-requires t c =
    let items = c.items-items.result.now in
    let us = map tree_of items in
    let k = c.loop-k.k in
    let here = argument-is items us k c.index-items-k.result refl c.loop-k-test.true c.index-items-k.is in
    let room : k < length us = omega (arith, arguments-length items) in
    let whole : tree_of c.args.t.now ≡ apply c.in-App.field-0.0 (trees_of us) = ap tree_of c.in-App.is ∙ ap (λ vs. apply c.in-App.field-0.0 (trees_of vs)) (sym c.items-items.ensures) in
    (omega (arith, ap tree_depth here, argument-depth us k room, ap tree_depth whole, c.decreases), tt)

pub returns-then-branch-2 : goal.returns-then-branch-2
returns-then-branch-2 t c =
    let items = c.items-items.result.now in
    let us = map tree_of items in
    let k = c.loop-k.k in
    let here = argument-is items us k c.index-items-k.result refl c.loop-k-test.true c.index-items-k.is in
    let room : k < length us = omega (arith, arguments-length items) in
    let whole : tree_of c.args.t.now ≡ apply c.in-App.field-0.0 (trees_of us) = ap tree_of c.in-App.is ∙ ap (λ vs. apply c.in-App.field-0.0 (trees_of vs)) (sym c.items-items.ensures) in
    ((λ e. encompasses_same (tree_of c.args.pattern.now) (sym whole) (encompasses_in c.in-App.field-0.0 us k (tree_of c.args.pattern.now) room (encompasses_same (tree_of c.args.pattern.now) here (c.in_ok-encompasses-in-App.ensures.0 c.if-branch-2.true)))), λ h. refl)

pub loop-k-preserved : goal.loop-k-preserved
loop-k-preserved t c =
    let items = c.items-items.result.now in
    let us = map tree_of items in
    let k = c.loop-k.k in
    let here = argument-is items us k c.index-items-k.result refl c.loop-k-test.true c.index-items-k.is in
    below_more _ _ c.loop-k.invariant (λ h. false_true c.if-branch-2.false (c.in_ok-encompasses-in-App.ensures.1 (encompasses_same (tree_of c.args.pattern.now) (sym here) h)))

pub returns-in-Var : goal.returns-in-Var
returns-in-Var t c =
    let whole : tree_of c.args.t.now ≡ variable c.in-Var.field-0 = ap tree_of c.in-Var.is in
    ((λ e. absurd (false_true refl e)), λ h. absurd (false_true c.if-branch.false (c.in_ok-matches.ensures.1 (matches_same (tree_of c.args.pattern.now) (sym whole) (encompasses_variable c.in-Var.field-0 (tree_of c.args.pattern.now) (encompasses_same (tree_of c.args.pattern.now) whole h))))))

pub returns-after-loop-k : goal.returns-after-loop-k
returns-after-loop-k t c =
    let items = c.items-items.result.now in
    let us = map tree_of items in
    let whole : tree_of c.args.t.now ≡ apply c.in-App.field-0.0 (trees_of us) = ap tree_of c.in-App.is ∙ ap (λ vs. apply c.in-App.field-0.0 (trees_of vs)) (sym c.items-items.ensures) in
    ((λ e. absurd (false_true refl e)), λ h. absurd (encompasses_none c.in-App.field-0.0 us (tree_of c.args.pattern.now) (λ m. false_true c.if-branch.false (c.in_ok-matches.ensures.1 (matches_same (tree_of c.args.pattern.now) (sym whole) m))) (λ j p. c.loop-k.invariant j (omega (arith, p, arguments-length items, c.loop-k-test.false))) (encompasses_same (tree_of c.args.pattern.now) whole h)))

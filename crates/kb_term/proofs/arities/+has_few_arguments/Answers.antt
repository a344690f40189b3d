use Rattle.std.proofs.Common.{arith, ◌≡◌, ◌<◌, ◌∙◌, sym, ap, subst, length, refl, below_more}
use Rattle.std.specs.Prelude.{map}
use Rattle.kb_term.specs.Tree.{tree_depth, trees_of, apply}
use Rattle.kb_term.specs.View.{tree_of}
use Rattle.kb_term.proofs.Arguments.{argument-is, argument-depth, arguments-length}
use Rattle.kb_term.specs.FewArguments.{HasFewArguments}
use Rattle.kb_term.proofs.FewArguments.{few_arguments, all_few_arguments, arguments-count}
use Rattle.kb_term.proofs.arities.+has_few_arguments.Goals as goal

pub returns-then-items-gt255 : goal.returns-then-items-gt255
returns-then-items-gt255 t c =
    let items = c.items-items.result.now in
    let us = map tree_of items in
    let whole : tree_of c.args.t.now ≡ apply c.in-App.field-0.0 (trees_of us) = ap tree_of c.in-App.is ∙ ap (λ vs. apply c.in-App.field-0.0 (trees_of vs)) (sym c.items-items.ensures) in
    ((λ e. absurd (cc)), λ h. let few : HasFewArguments (apply c.in-App.field-0.0 (trees_of us)) = subst HasFewArguments whole h in absurd (omega (arith, few.0, arguments-count us, arguments-length items, c.if-items-gt255.true)))

pub has_few_arguments-requires : goal.has_few_arguments-requires
has_few_arguments-requires t c =
    let items = c.items-items.result.now in
    let us = map tree_of items in
    let k = c.loop-k.k in
    let here = argument-is items us k c.index-items-k.result refl c.loop-k-test.true c.index-items-k.is in
    let room : k < length us = omega (arith, arguments-length items) in
    let whole : tree_of c.args.t.now ≡ apply c.in-App.field-0.0 (trees_of us) = ap tree_of c.in-App.is ∙ ap (λ vs. apply c.in-App.field-0.0 (trees_of vs)) (sym c.items-items.ensures) in
    (omega (arith, ap tree_depth here, argument-depth us k room, ap tree_depth whole, c.decreases), tt)

pub returns-then-not-has_few_arguments : goal.returns-then-not-has_few_arguments
returns-then-not-has_few_arguments t c =
    let items = c.items-items.result.now in
    let us = map tree_of items in
    let k = c.loop-k.k in
    let here = argument-is items us k c.index-items-k.result refl c.loop-k-test.true c.index-items-k.is in
    let room : k < length us = omega (arith, arguments-length items) in
    let whole : tree_of c.args.t.now ≡ apply c.in-App.field-0.0 (trees_of us) = ap tree_of c.in-App.is ∙ ap (λ vs. apply c.in-App.field-0.0 (trees_of vs)) (sym c.items-items.ensures) in
    ((λ e. absurd (cc)), λ h. let few : HasFewArguments (apply c.in-App.field-0.0 (trees_of us)) = subst HasFewArguments whole h in c.if-not-has_few_arguments.ensures.1 (subst HasFewArguments (sym here) (few_arguments us k room few.1)))

pub loop-k-preserved : goal.loop-k-preserved
loop-k-preserved t c =
    let items = c.items-items.result.now in
    let us = map tree_of items in
    let k = c.loop-k.k in
    let here = argument-is items us k c.index-items-k.result refl c.loop-k-test.true c.index-items-k.is in
    below_more _ _ c.loop-k.invariant (subst HasFewArguments here (c.if-not-has_few_arguments.ensures.0 refl))

pub returns-after-loop-k : goal.returns-after-loop-k
returns-after-loop-k t c =
    let items = c.items-items.result.now in
    let us = map tree_of items in
    let whole : tree_of c.args.t.now ≡ apply c.in-App.field-0.0 (trees_of us) = ap tree_of c.in-App.is ∙ ap (λ vs. apply c.in-App.field-0.0 (trees_of vs)) (sym c.items-items.ensures) in
    let few : HasFewArguments (apply c.in-App.field-0.0 (trees_of us)) = (
      omega (arith, arguments-count us, arguments-length items, c.if-items-gt255.false),
      all_few_arguments us (λ j p. c.loop-k.invariant j (omega (arith, p, arguments-length items, c.loop-k-test.false))),
    ) in
    ((λ e. subst HasFewArguments (sym whole) few), λ h. refl)

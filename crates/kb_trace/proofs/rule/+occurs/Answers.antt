use Rattle.std.proofs.Common.{arith, ◌≡◌, ◌<◌, ◌∙◌, sym, ap, subst, length, refl, below_more, Contains}
use Rattle.std.specs.Prelude.{map}
use Rattle.kb_term.specs.Tree.{tree_depth, trees_of, apply, variables_of}
use Rattle.kb_term.specs.View.{tree_of}
use Rattle.kb_term.proofs.Arguments.{argument-is, argument-depth, argument-variables, arguments-length}
use Rattle.kb_trace.proofs.Occurs.{in_some_argument}
use Rattle.kb_trace.proofs.rule.+occurs.Goals as goal

pub occurs-requires : goal.occurs-requires
occurs-requires t c =
    let items = c.items-items.result.now in
    let us = map tree_of items in
    let k = c.loop-k.k in
    let here = argument-is items us k c.index-items-k.result refl c.loop-k-test.true c.index-items-k.is in
    let room : k < length us = omega (arith, arguments-length items) in
    let whole : tree_of c.args.t.now ≡ apply c.in-App.field-0.0 (trees_of us) = ap tree_of c.in-App.is ∙ ap (λ vs. apply c.in-App.field-0.0 (trees_of vs)) (sym c.items-items.ensures) in
    (omega (arith, ap tree_depth here, argument-depth us k room, ap tree_depth whole, c.decreases), tt)

pub returns-then-occurs : goal.returns-then-occurs
returns-then-occurs t c =
    let items = c.items-items.result.now in
    let us = map tree_of items in
    let k = c.loop-k.k in
    let here = argument-is items us k c.index-items-k.result refl c.loop-k-test.true c.index-items-k.is in
    let room : k < length us = omega (arith, arguments-length items) in
    let whole : tree_of c.args.t.now ≡ apply c.in-App.field-0.0 (trees_of us) = ap tree_of c.in-App.is ∙ ap (λ vs. apply c.in-App.field-0.0 (trees_of vs)) (sym c.items-items.ensures) in
    let found = subst (λ u. Contains (variables_of u) c.args.n) here (c.occurs.ensures.0 c.if-occurs.true) in
    ((λ e. subst (λ u. Contains (variables_of u) c.args.n) (sym whole) (argument-variables us k c.args.n room found)), λ h. refl)

pub loop-k-preserved : goal.loop-k-preserved
loop-k-preserved t c =
    let items = c.items-items.result.now in
    let us = map tree_of items in
    let k = c.loop-k.k in
    let here = argument-is items us k c.index-items-k.result refl c.loop-k-test.true c.index-items-k.is in
    below_more _ _ c.loop-k.invariant (λ h. let found = c.occurs.ensures.1 (subst (λ u. Contains (variables_of u) c.args.n) (sym here) h) in absurd (cc))

pub returns-after-loop-k : goal.returns-after-loop-k
returns-after-loop-k t c =
    let items = c.items-items.result.now in
    let us = map tree_of items in
    let whole : tree_of c.args.t.now ≡ apply c.in-App.field-0.0 (trees_of us) = ap tree_of c.in-App.is ∙ ap (λ vs. apply c.in-App.field-0.0 (trees_of vs)) (sym c.items-items.ensures) in (
      (λ e. absurd (cc)),
      λ h.
          let found = in_some_argument us c.args.n (subst (λ u. Contains (variables_of u) c.args.n) whole h) in
          absurd (c.loop-k.invariant found.0 (omega (arith, found.1, arguments-length items, c.loop-k-test.false)) found.2),
    )

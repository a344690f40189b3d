use Rattle.std.proofs.Common.{arith, ◌≡◌, ◌<◌, ◌∙◌, sym, ap, subst, length, refl}
use Rattle.std.specs.Prelude.{map}
use Rattle.kb_term.specs.Tree.{tree_depth, trees_of, apply}
use Rattle.kb_term.specs.Substitution.{instance}
use Rattle.kb_term.specs.View.{tree_of}
use Rattle.kb_term.proofs.Arguments.{argument-is, argument-depth, arguments-length}
use Rattle.kb_unify.specs.Extent.{IsExtent}
use Rattle.kb_term.specs.Substitution.{substitution_of}
use Rattle.kb_overlap.proofs.Measures.{extent_more}
use Rattle.kb_overlap.proofs.instance.+instance_extent.Goals as goal

pub instance_extent-requires : goal.instance_extent-requires
instance_extent-requires t c =
    let items = c.items-items.result.now in
    let us = map tree_of items in
    let k = c.loop-k.k in
    let here = argument-is items us k c.index-items-k.result refl c.loop-k-test.true c.index-items-k.is in
    let room : k < length us = omega (arith, arguments-length items) in
    let whole : tree_of c.args.t.now ≡ apply c.in-App.field-0.0 (trees_of us) = ap tree_of c.in-App.is ∙ ap (λ vs. apply c.in-App.field-0.0 (trees_of vs)) (sym c.items-items.ensures) in
    (omega (arith, ap tree_depth here, argument-depth us k room, ap tree_depth whole, c.decreases), c.requires)

pub loop-k-preserved : goal.loop-k-preserved
loop-k-preserved t c =
    let items = c.items-items.result.now in
    let us = map tree_of items in
    let k = c.loop-k.k in
    let m = substitution_of c.args.m.now in
    let here = argument-is items us k c.index-items-k.result refl c.loop-k-test.true c.index-items-k.is in
    let room : k < length us = omega (arith, arguments-length items) in
    extent_more m us k c.loop-k.together c.instance_extent.result c.with-together.result room c.loop-k.invariant (subst (λ u. IsExtent c.instance_extent.result (instance m u)) here c.instance_extent.ensures) c.with-together.ensures.size c.with-together.ensures.depth

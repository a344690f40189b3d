use Rattle.std.proofs.Common.{arith, ◌≡◌, ◌<◌, ◌+◌, ◌++◌, [], ◌∷◌, ◌∙◌, sym, ap, subst, length, refl}
use Rattle.std.specs.Prelude.{map}
use Rattle.kb_term.specs.Position.{function_positions_of}
use Rattle.kb_term.specs.Tree.{tree_depth, trees_of, apply}
use Rattle.kb_term.specs.View.{tree_of}
use Rattle.kb_term.proofs.Arguments.{argument-is, argument-depth, arguments-length}
use Rattle.kb_term.specs.FewArguments.{HasFewArguments}
use Rattle.kb_term.proofs.FewArguments.{few_arguments, arguments-count}
use Rattle.kb_overlap.proofs.Preorder.{positions_more}
use Rattle.kb_overlap.proofs.positions.+push_positions.Goals as goal

pub overflow_cast-k : goal.overflow_cast-k
overflow_cast-k t c =
    let items = c.items-items.result.now in
    let us = map tree_of items in
    let whole : tree_of c.args.t.now ≡ apply c.in-App.field-0.0 (trees_of us) = ap tree_of c.in-App.is ∙ ap (λ vs. apply c.in-App.field-0.0 (trees_of vs)) (sym c.items-items.ensures) in
    let few : HasFewArguments (apply c.in-App.field-0.0 (trees_of us)) = subst HasFewArguments whole c.requires in
    omega (arith, few.0, arguments-count us, arguments-length items, c.loop-k-test.true)

pub push_positions-requires : goal.push_positions-requires
push_positions-requires t c =
    let items = c.items-items.result.now in
    let us = map tree_of items in
    let k = c.loop-k.k in
    let here = argument-is items us k c.index-items-k.result refl c.loop-k-test.true c.index-items-k.is in
    let room : k < length us = omega (arith, arguments-length items) in
    let whole : tree_of c.args.t.now ≡ apply c.in-App.field-0.0 (trees_of us) = ap tree_of c.in-App.is ∙ ap (λ vs. apply c.in-App.field-0.0 (trees_of vs)) (sym c.items-items.ensures) in
    let few : HasFewArguments (apply c.in-App.field-0.0 (trees_of us)) = subst HasFewArguments whole c.requires in
    (omega (arith, ap tree_depth here, argument-depth us k room, ap tree_depth whole, c.decreases), subst HasFewArguments (sym here) (few_arguments us k room few.1))

pub loop-k-preserved : goal.loop-k-preserved
loop-k-preserved t c =
    let items = c.items-items.result.now in
    let us = map tree_of items in
    let k = c.loop-k.k in
    let here = argument-is items us k c.index-items-k.result refl c.loop-k-test.true c.index-items-k.is in
    let room : k < length us = omega (arith, arguments-length items) in
    positions_more c.loop-k.found.items c.push.new.self.items c.push_positions.new.found.items c.args.path.now c.push-in-loop-k.new.self us k room c.loop-k.invariant
    (c.in_ok-push-in-App-2.ensures.ok ∙ ap (◌++ ((k + 1) ∷ [])) c.in_ok-argument-in-App.ensures.cases)
    (c.in_ok-push_positions-in-App.ensures ∙ ap (λ u. c.loop-k.found.items ++ map (c.push-in-loop-k.new.self ++◌) (function_positions_of u)) here)

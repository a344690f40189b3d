use Rattle.std.proofs.Common.{arith, ◌≡◌, ◌<◌, ◌∙◌, sym, ap, length, refl}
use Rattle.std.specs.Prelude.{map}
use Rattle.kb_term.specs.Tree.{tree_depth, trees_of, apply}
use Rattle.kb_term.specs.View.{tree_of}
use Rattle.kb_term.proofs.Arguments.{argument-is, argument-depth, arguments-length}
use Rattle.kb_unify.proofs.UnifiedArguments.{unifiable_symbols, unifiable_arguments, unifiable_same}
use Rattle.kb_unify.proofs.clashing.+clashes.Goals as goal
use Rattle.kb_unify.proofs.clashing.+clashes.Goals.{then-f-g-via-then-f-g, then-f-g-via-else-f-g+then-ts-us}

pub returns-then-f-g : goal.returns-then-f-g
returns-then-f-g t c e h =
    let ss = map tree_of c.items-ts.result.now in
    let ts = map tree_of c.items-us.result.now in
    let whole : tree_of c.args.a.now ≡ apply c.in-App-App.f.0 (trees_of ss) = ap tree_of c.in-App-App.is-0 ∙ ap (λ vs. apply c.in-App-App.f.0 (trees_of vs)) (sym c.items-ts.ensures) in
    let other : tree_of c.args.b.now ≡ apply c.in-App-App.g.0 (trees_of ts) = ap tree_of c.in-App-App.is-1 ∙ ap (λ vs. apply c.in-App-App.g.0 (trees_of vs)) (sym c.items-us.ensures) in
    let both = unifiable_symbols c.in-App-App.f.0 c.in-App-App.g.0 ss ts (unifiable_same whole other h) in
    elim c.then-f-g.branch [
      | then-f-g-via-then-f-g w ↦ omega (arith, w.if-f-g.true, both.0)
      | then-f-g-via-else-f-g+then-ts-us w ↦ omega (arith, w.if-ts-us.true, both.1, arguments-length c.items-ts.result.now, arguments-length c.items-us.result.now)
    ]

pub clashes-requires : goal.clashes-requires
clashes-requires t c =
    let items = c.items-ts.result.now in
    let us = map tree_of items in
    let i = c.loop-i.i in
    let here = argument-is items us i c.index-ts-i.result refl c.loop-i-test.true c.index-ts-i.is in
    let room : i < length us = omega (arith, arguments-length items) in
    let whole : tree_of c.args.a.now ≡ apply c.in-App-App.f.0 (trees_of us) = ap tree_of c.in-App-App.is-0 ∙ ap (λ vs. apply c.in-App-App.f.0 (trees_of vs)) (sym c.items-ts.ensures) in
    (omega (arith, ap tree_depth here, argument-depth us i room, ap tree_depth whole, c.decreases), tt)

pub returns-then-clashes : goal.returns-then-clashes
returns-then-clashes t c e h =
    let items = c.items-ts.result.now in
    let others = c.items-us.result.now in
    let ss = map tree_of items in
    let ts = map tree_of others in
    let i = c.loop-i.i in
    let room : i < length ss = omega (arith, arguments-length items) in
    let here = argument-is items ss i c.index-ts-i.result refl c.loop-i-test.true c.index-ts-i.is in
    let there = argument-is others ts i c.index-us-i.result refl (omega (arith, c.loop-i-test.true, c.if-ts-us.false)) c.index-us-i.is in
    let whole : tree_of c.args.a.now ≡ apply c.in-App-App.f.0 (trees_of ss) = ap tree_of c.in-App-App.is-0 ∙ ap (λ vs. apply c.in-App-App.f.0 (trees_of vs)) (sym c.items-ts.ensures) in
    let other : tree_of c.args.b.now ≡ apply c.in-App-App.g.0 (trees_of ts) = ap tree_of c.in-App-App.is-1 ∙ ap (λ vs. apply c.in-App-App.g.0 (trees_of vs)) (sym c.items-us.ensures) in
    c.if-clashes.ensures refl (unifiable_same (sym here) (sym there) (unifiable_arguments c.in-App-App.f.0 c.in-App-App.g.0 ss ts i room (unifiable_same whole other h)))

use Rattle.std.proofs.Common.{◌≡◌, ◌<◌, ◌∙◌, sym, ap, refl, length, arith}
use Rattle.std.specs.Prelude.{map}
use Rattle.kb_term.specs.Tree.{tree_depth, trees_of, apply}
use Rattle.kb_term.specs.View.{tree_of}
use Rattle.kb_term.proofs.Arguments.{argument-is, argument-depth, arguments-length}
use Rattle.cert_pool.proofs.hashing.+with_term.Goals as goal

pub with_term-hash-requires : goal.with_term-hash-requires
with_term-hash-requires t c =
    let items = c.items-items.result.now in
    let us = map tree_of items in
    let i = c.loop-i.i in
    let here = argument-is items us i c.index-items-i.result refl c.loop-i-test.true c.index-items-i.is in
    let room : i < length us = omega (arith, arguments-length items) in
    let whole : tree_of c.args.t.now ≡ apply c.in-App.f.0 (trees_of us) = ap tree_of c.in-App.is ∙ ap (λ vs. apply c.in-App.f.0 (trees_of vs)) (sym c.items-items.ensures) in
    (omega (arith, ap tree_depth here, argument-depth us i room, ap tree_depth whole, c.decreases), tt)

use Rattle.std.proofs.Common.{arith, ◌≡◌, ◌<◌, ◌∙◌, sym, ap, length, refl}
use Rattle.std.specs.Prelude.{map}
use Rattle.kb_term.specs.Tree.{tree_depth, trees_of, apply}
use Rattle.kb_term.specs.View.{tree_of}
use Rattle.kb_term.proofs.Arguments.{argument-is, argument-depth, arguments-length}
use Rattle.kb_bench.proofs.rewriting.+term_code.Goals as goal

pub term_code-requires : goal.term_code-requires
term_code-requires t c =
    let items = c.items-items.result.now in
    let us = map tree_of items in
    let k = c.loop-k.k in
    let here = argument-is items us k c.index-items-k.result refl c.loop-k-test.true c.index-items-k.is in
    let room : k < length us = omega (arith, arguments-length items) in
    let whole : tree_of c.args.t.now ≡ apply c.in-App.f.0 (trees_of us) = ap tree_of c.in-App.is ∙ ap (λ vs. apply c.in-App.f.0 (trees_of vs)) (sym c.items-items.ensures) in
    (omega (arith, ap tree_depth here, argument-depth us k room, ap tree_depth whole, c.decreases), tt)

use Rattle.std.proofs.Common.{arith, ap, ◌≡◌}
use Rattle.kb_term.specs.Tree.{apply, tree_size, trees_of}
use Rattle.kb_term.specs.View.{tree_of}
use Rattle.std.specs.Prelude.{map}
use Rattle.kb_linear.proofs.Values.{application, argument_smaller}
use Rattle.kb_kbo.proofs.order.+weight_of.Goals as goal

pub weight_of-total-requires : goal.weight_of-total-requires
weight_of-total-requires t c =
    let items = c.items-items.result.now in
    let whole = application c.args.t.now c.in-App.f c.in-App.arguments items c.in-App.is c.items-items.ensures in
    let size : tree_size (tree_of c.args.t.now) ≡ tree_size (apply c.in-App.f.0 (trees_of (map tree_of items))) = ap tree_size whole in
    let s = argument_smaller items c.loop-j.j c.index-items-j.result (omega arith) c.index-items-j.is in
    (omega (arith, c.decreases, s, size), (c.requires.weights, omega (arith, s, size, c.requires.size)))

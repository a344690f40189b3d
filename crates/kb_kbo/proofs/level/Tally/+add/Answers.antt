use Rattle.std.proofs.Common.{arith, ap, ◌≡◌, ◌+◌, map, []}
use Rattle.kb_term.specs.Tree.{apply, tree_size, trees_of, trees_size}
use Rattle.kb_term.specs.View.{tree_of}
use Rattle.kb_linear.proofs.Values.{application, argument_smaller, terms_more}
use Rattle.kb_kbo.specs.KnuthBendix.{weight, weight_in, symbol_weight}
use Rattle.kb_kbo.specs.Measures.{order_of}
use Rattle.kb_kbo.specs.Asking.{value_of}
use Rattle.kb_kbo.proofs.Levels.{weight_plain}
use Rattle.kb_kbo.proofs.level.Tally.+add.Goals as goal

pub loop-j-init : goal.loop-j-init
loop-j-init t c =
    let items = c.items-items.result.now in
    let whole = application c.args.t.now c.in-App.f c.in-App.arguments items c.in-App.is c.items-items.ensures in
    let size : tree_size (tree_of c.args.t.now) ≡ tree_size (apply c.in-App.f.0 (trees_of (map tree_of items))) = ap tree_size whole in
    let plain : value_of c.add_symbol.new.self (λ _. 1) ≡ value_of c.args.self.now (λ _. 1) + 1 = c.add_symbol.ensures (order_of [] []) (omega arith) in
    record {
      added = λ order l. let w : weight order (tree_of c.args.t.now) ≡ symbol_weight order c.in-App.f.0 + weight_in order (trees_of (map tree_of items)) = ap (weight order) whole in omega (arith, c.add_symbol.ensures order l, w);
      room = omega (arith, c.requires, size, plain);
    }

pub add-requires : goal.add-requires
add-requires t c =
    let items = c.items-items.result.now in
    let whole = application c.args.t.now c.in-App.f c.in-App.arguments items c.in-App.is c.items-items.ensures in
    let size : tree_size (tree_of c.args.t.now) ≡ tree_size (apply c.in-App.f.0 (trees_of (map tree_of items))) = ap tree_size whole in
    let s = argument_smaller items c.loop-j.j c.index-items-j.result (omega arith) c.index-items-j.is in
    let more = terms_more items c.loop-j.j c.index-items-j.result (omega arith) c.index-items-j.is in
    (omega (arith, c.decreases, s, size), omega (arith, c.loop-j.invariant.room, ap trees_size more))

pub loop-j-preserved : goal.loop-j-preserved
loop-j-preserved t c =
    let items = c.items-items.result.now in
    let u = tree_of c.index-items-j.result in
    let more = terms_more items c.loop-j.j c.index-items-j.result (omega arith) c.index-items-j.is in
    let plain : value_of c.add.new.self (λ _. 1) ≡ value_of c.loop-j.self (λ _. 1) + weight (order_of [] []) u = c.add.ensures (order_of [] []) (omega arith) in
    record {
      added = λ order l. omega (arith, c.loop-j.invariant.added order l, c.add.ensures order l, ap (weight_in order) more);
      room = omega (arith, c.loop-j.invariant.room, plain, weight_plain u, ap trees_size more);
    }

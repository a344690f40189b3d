use Rattle.std.proofs.Common.{arith, ap, ◌≡◌, ◌<◌, drop, subst, All, ◌+◌}
use Rattle.kb_term.specs.Tree.{apply, tree_size, trees_of, trees_size, variables_of, variables_in}
use Rattle.kb_term.specs.View.{tree_of}
use Rattle.std.specs.Prelude.{map}
use Rattle.kb_linear.proofs.Values.{application, argument_smaller, terms_more}
use Rattle.kb_kbo.proofs.Counts.{all_first, all_rest, counted_first, occurrences-size}
use Rattle.kb_kbo.proofs.order.+count_variables.Goals as goal

pub count_variables-requires : goal.count_variables-requires
count_variables-requires t c =
    let items = c.items-items.result.now in
    let whole = application c.args.t.now c.in-App.field-0 c.in-App.arguments items c.in-App.is c.items-items.ensures in
    let size : tree_size (tree_of c.args.t.now) ≡ tree_size (apply c.in-App.field-0.0 (trees_of (map tree_of items))) = ap tree_size whole in
    let s = argument_smaller items c.loop-j.j c.index-items-j.result (omega arith) c.index-items-j.is in
    let rest = trees_of (map tree_of (drop (c.loop-j.j + 1) items)) in
    let more = terms_more items c.loop-j.j c.index-items-j.result (omega arith) c.index-items-j.is in
    let below = subst (λ us. All (λ n. n < 64) (variables_in us)) more c.loop-j.invariant.below in
    (omega (arith, c.decreases, s, size), (all_first (λ n. n < 64) (variables_of (tree_of c.index-items-j.result)) (variables_in rest) below, λ n. omega (arith, c.loop-j.invariant.room n, ap trees_size more)))

pub loop-j-preserved : goal.loop-j-preserved
loop-j-preserved t c =
    let items = c.items-items.result.now in
    let u = tree_of c.index-items-j.result in
    let rest = trees_of (map tree_of (drop (c.loop-j.j + 1) items)) in
    let more = terms_more items c.loop-j.j c.index-items-j.result (omega arith) c.index-items-j.is in
    record {
      counted = λ n. omega (arith, c.loop-j.invariant.counted n, c.count_variables.ensures n, counted_first n u _ rest more);
      room = λ n. omega (arith, c.loop-j.invariant.room n, c.count_variables.ensures n, occurrences-size n u, ap trees_size more);
      below = all_rest (λ n. n < 64) (variables_of u) (variables_in rest) (subst (λ us. All (λ n. n < 64) (variables_in us)) more c.loop-j.invariant.below);
    }

use Rattle.std.proofs.Common.{◌≡◌, ◌<◌, ◌+◌, Contains, sym, ap, subst, refl, arith, get_or, ◌≤◌}
use Rattle.std.specs.Prelude.{map}
use Rattle.kb_term.specs.Tree.{variable, apply, trees_of, variables_of, variables_in, tree_depth, trees_depth}
use Rattle.kb_term.specs.View.{tree_of}
use Rattle.kb_term.proofs.Arguments.{argument-is, argument-variables, argument-depth, arguments-length}
use Rattle.kb_term.proofs.Instances.{instances-map}
use Rattle.kb_term.proofs.variables.+shifted.Goals as goal

pub overflow_add-result : goal.overflow_add-result
overflow_add-result t c =
    let small : c.in-Var.n < 64 = c.requires c.in-Var.n (subst (λ u. Contains (variables_of (tree_of u)) c.in-Var.n) (sym c.in-Var.is) (0, omega arith, refl)) in
    omega (arith, small)

pub loop-argument-init : goal.loop-argument-init
loop-argument-init t c = record {
  made = ap (map tree_of) c.in_ok-items-in-App.ensures.items;
  whole = rw (c.in-App.is, ← c.arguments.view_is, c.deref-argument-items.ensures.value) (ap (apply c.in-App.f.0) (instances-map (λ n. variable (n + 64)) c.arguments.inside.items.items));
  below = λ k h n d.
      let items = c.deref-argument-items.result.now in
      let all : Contains (variables_in (trees_of (map tree_of items))) n = argument-variables (map tree_of items) k n (omega (arith, h, arguments-length items)) d in
      c.requires n (rw (c.in-App.is, ← c.arguments.view_is, ← c.deref-argument-items.ensures.value) all);
}

pub shifted-requires : goal.shifted-requires
shifted-requires t c =
    let items = c.deref-argument-items.result.now in
    let k = c.loop-argument.argument-index in
    let same : tree_of c.argument-item.result ≡ get_or (map tree_of items) k (variable 0) = argument-is items (map tree_of items) k c.argument-item.result refl c.loop-argument-test.true c.argument-item.is in
    let less : tree_depth (get_or (map tree_of items) k (variable 0)) ≤ trees_depth (trees_of (map tree_of items)) = argument-depth (map tree_of items) k (omega (arith, c.loop-argument-test.true, arguments-length items)) in
    let whole : tree_depth (tree_of c.args.t.now) ≡ trees_depth (trees_of (map tree_of items)) + 1 = rw (c.in-App.is, ← c.arguments.view_is, c.deref-argument-items.ensures.value) refl in
    (omega (arith, ap tree_depth same, less, whole, c.decreases), (λ n d. c.loop-argument.invariant.below k c.loop-argument-test.true n (subst (λ u. Contains (variables_of u) n) same d)))

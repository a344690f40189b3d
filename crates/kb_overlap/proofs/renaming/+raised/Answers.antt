use Rattle.std.proofs.Common.{◌≡◌, ◌<◌, ◌∙◌, ◌+◌, Contains, sym, ap, subst, refl, arith, get_or, ◌≤◌}
use Rattle.std.specs.Prelude.{map}
use Rattle.std.proofs.lemmas.List.{take_all}
use Rattle.kb_term.specs.Tree.{variable, apply, trees_of, variables_of, variables_in, tree_depth, trees_depth}
use Rattle.kb_term.specs.Substitution.{rename}
use Rattle.kb_term.specs.View.{tree_of}
use Rattle.kb_term.proofs.Arguments.{argument-is, argument-variables, argument-depth, arguments-length}
use Rattle.kb_term.proofs.Instances.{instances-map}
use Rattle.kb_overlap.proofs.renaming.+raised.Goals as goal

pub overflow_add-result : goal.overflow_add-result
overflow_add-result t c =
    let small : c.in-Var.n < 64 = c.requires.variables c.in-Var.n (subst (λ u. Contains (variables_of (tree_of u)) c.in-Var.n) (sym c.in-Var.is) (0, omega arith, refl)) in
    omega (arith, small, c.requires.by)

pub loop-argument-init : goal.loop-argument-init
loop-argument-init t c =
    let parts = c.items-parts.result.now in
    let is : tree_of c.args.t.now ≡ apply c.in-App.f.0 (trees_of (map tree_of parts)) = ap tree_of c.in-App.is ∙ ap (λ vs. apply c.in-App.f.0 (trees_of vs)) (sym c.items-parts.ensures) in
    record {
      made = ap (map tree_of) c.in_ok-items-in-App.ensures.items;
      whole = ap (rename (λ n. n + c.args.by)) is ∙ ap (apply c.in-App.f.0) (instances-map (λ n. variable (n + c.args.by)) parts);
      below = λ k h n d.
          let all : Contains (variables_in (trees_of (map tree_of parts))) n = argument-variables (map tree_of parts) k n (omega (arith, h, arguments-length parts)) d in
          c.requires.variables n (subst (λ u. Contains (variables_of u) n) (sym is) all);
    }

pub raised-requires : goal.raised-requires
raised-requires t c =
    let parts = c.items-parts.result.now in
    let k = c.loop-argument.argument-index in
    let same : tree_of c.argument-item.result ≡ get_or (map tree_of parts) k (variable 0) = argument-is parts (map tree_of parts) k c.argument-item.result refl c.loop-argument-test.true c.argument-item.is in
    let less : tree_depth (get_or (map tree_of parts) k (variable 0)) ≤ trees_depth (trees_of (map tree_of parts)) = argument-depth (map tree_of parts) k (omega (arith, c.loop-argument-test.true, arguments-length parts)) in
    let is : tree_of c.args.t.now ≡ apply c.in-App.f.0 (trees_of (map tree_of parts)) = ap tree_of c.in-App.is ∙ ap (λ vs. apply c.in-App.f.0 (trees_of vs)) (sym c.items-parts.ensures) in
    (omega (arith, ap tree_depth same, less, ap tree_depth is, c.decreases), ((λ n d. c.loop-argument.invariant.below k c.loop-argument-test.true n (subst (λ u. Contains (variables_of u) n) same d)), c.requires.by))

pub returns-after-loop-argument : goal.returns-after-loop-argument
returns-after-loop-argument t c =
    let parts = c.items-parts.result.now in
    let k = c.loop-argument.argument-index in
    let done = take_all k parts (omega arith) in
    ap (λ us. apply c.in-App.f.0 (trees_of us)) (c.new.ensures ∙ c.loop-argument.invariant.made ∙ ap (map (λ u. rename (λ n. n + c.args.by) (tree_of u))) done) ∙ sym c.loop-argument.invariant.whole

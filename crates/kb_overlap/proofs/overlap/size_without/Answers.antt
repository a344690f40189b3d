use Rattle.std.proofs.Common.{arith, ◌≡◌, ◌∙◌, sym, ap, Some}
use Rattle.std.specs.Prelude.{option_map}
use Rattle.std.proofs.lemmas.Option.{same_Some}
use Rattle.kb_term.specs.Position.{subtree_at}
use Rattle.kb_term.specs.Substitution.{instance, substitution_of}
use Rattle.kb_term.specs.Tree.{tree_size}
use Rattle.kb_term.specs.View.{tree_of}
use Rattle.kb_term.proofs.Subtrees.{subtree-instance}
use Rattle.kb_overlap.proofs.Sides.{size-subtree}
use Rattle.kb_overlap.proofs.overlap.size_without.Goals as goal

pub overflow_sub-whole : goal.overflow_sub-whole
overflow_sub-whole c =
    let m = substitution_of c.args.m.now in
    let there : subtree_at (tree_of c.args.t.now) c.args.position.now ≡ Some (tree_of c.in-Some.u.now) = sym c.subterm.ensures ∙ ap (option_map (λ u. tree_of u.now)) c.in-Some.is in
    omega (arith, c.instance_extent.ensures.size, c.requires.whole.size, c.requires.within, size-subtree c.args.position.now (instance m (tree_of c.args.t.now)) (instance m (tree_of c.in-Some.u.now)) (subtree-instance m c.args.position.now (tree_of c.args.t.now) (tree_of c.in-Some.u.now) there))

pub returns-in-Some-clause-rest : goal.returns-in-Some-clause-rest
returns-in-Some-clause-rest c v at =
    let m = substitution_of c.args.m.now in
    let there : subtree_at (tree_of c.args.t.now) c.args.position.now ≡ Some (tree_of c.in-Some.u.now) = sym c.subterm.ensures ∙ ap (option_map (λ u. tree_of u.now)) c.in-Some.is in
    omega (arith, c.instance_extent.ensures.size, c.requires.whole.size, c.requires.within, size-subtree c.args.position.now (instance m (tree_of c.args.t.now)) (instance m (tree_of c.in-Some.u.now)) (subtree-instance m c.args.position.now (tree_of c.args.t.now) (tree_of c.in-Some.u.now) there), ap (λ u. tree_size (instance m u)) (same_Some (tree_of c.in-Some.u.now) v (sym there ∙ at)))

use Rattle.std.proofs.Common.{ap, ◌∙◌, ◌+◌, arith}
use Rattle.std.specs.Prelude.{map}
use Rattle.kb_term.specs.Tree.{trees_depth, tree_depth}
use Rattle.kb_term.specs.Substitution.{instance, substitution_of}
use Rattle.kb_term.specs.View.{tree_of}
use Rattle.kb_term.proofs.Sizes.{trees_depth-of, list_depth_more-map}
use Rattle.kb_term.proofs.Instances.{instances-map}
use Rattle.kb_term.proofs.subst.+instance_depth_up_to.Goals as goal

pub loop-argument-init : goal.loop-argument-init
loop-argument-init t c =
    (omega arith, rw (c.in-App.is, ← c.arguments.view_is, c.deref-argument-items.ensures.value) (ap (◌+ 1) (ap trees_depth (instances-map (substitution_of c.args.m.now) c.arguments.inside.items.items) ∙ trees_depth-of (map (λ u. instance (substitution_of c.args.m.now) (tree_of u)) c.arguments.inside.items.items))), omega arith)

pub loop-argument-preserved : goal.loop-argument-preserved
loop-argument-preserved t c =
    let items = c.deref-argument-items.result.now in
    let more = list_depth_more-map (λ u. instance (substitution_of c.args.m.now) (tree_of u)) items c.loop-argument.argument-index c.argument-item.result c.loop-argument-test.true in
    (omega (arith, c.max-deepest.ensures, c.instance_depth_up_to.ensures, c.loop-argument.invariant.0, more, ap (λ u. tree_depth (instance (substitution_of c.args.m.now) (tree_of u))) c.argument-item.is), c.loop-argument.invariant.1, c.loop-argument.invariant.2)

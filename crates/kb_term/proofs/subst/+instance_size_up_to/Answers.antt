use Rattle.std.proofs.Common.{ap, ◌∙◌, ◌+◌, arith}
use Rattle.kb_term.specs.Tree.{trees_size}
use Rattle.kb_term.specs.Substitution.{instance, substitution_of}
use Rattle.kb_term.specs.View.{tree_of}
use Rattle.kb_term.proofs.Sizes.{trees_size-map}
use Rattle.kb_term.proofs.Instances.{instances-map}
use Rattle.kb_term.proofs.subst.+instance_size_up_to.Goals as goal

pub loop-argument-init : goal.loop-argument-init
loop-argument-init t c =
    (omega arith, rw (c.in-App.is, ← c.arguments.view_is, c.deref-argument-items.ensures.value) (ap (◌+ 1) (ap trees_size (instances-map (substitution_of c.args.m.now) c.arguments.inside.items.items) ∙ trees_size-map (λ u. instance (substitution_of c.args.m.now) (tree_of u)) c.arguments.inside.items.items)), omega arith)

use Rattle.std.proofs.Common.{ap}
use Rattle.std.specs.Prelude.{map}
use Rattle.kb_term.specs.Tree.{apply}
use Rattle.kb_term.specs.Substitution.{substitution_of}
use Rattle.kb_term.specs.View.{tree_of}
use Rattle.kb_term.proofs.Instances.{instances-map}
use Rattle.kb_term.proofs.subst.+instance_of.Goals as goal

pub loop-argument-init : goal.loop-argument-init
loop-argument-init t c =
    (ap (map tree_of) c.in_ok-items-in-App.ensures.items, rw (c.in-App.is, ← c.arguments.view_is, c.deref-argument-items.ensures.value) (ap (apply c.in-App.f.0) (instances-map (substitution_of c.args.m.now) c.arguments.inside.items.items)))

use Rattle.std.proofs.Common.{ap, ◌+◌, arith}
use Rattle.kb_term.proofs.limits.+size_up_to.Goals as goal
use Rattle.kb_term.proofs.Sizes.{trees_size-of}

pub loop-argument-init : goal.loop-argument-init
loop-argument-init t c =
    (omega arith, rw (c.in-App.is, ← c.arguments.view_is, c.deref-argument-items.ensures.value) (ap (◌+ 1) (trees_size-of c.arguments.inside.items.items)), omega arith)

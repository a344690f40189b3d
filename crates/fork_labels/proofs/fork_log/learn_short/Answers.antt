use Rattle.std.proofs.Common.{arith}
use Rattle.kb_label.proofs.Forked.{leaves-forked}
use Rattle.fork_labels.specs.Places.{living_of}
use Rattle.fork_labels.proofs.fork_log.learn_short.Goals as goal

pub returns : goal.returns
returns c =
    let short = (leaves-forked (living_of c.args.log.now) c.are_forked.ensures.forked).short c.args.process.now c.requires.lives in
    omega (arith, short, c.requires.room)

use Rattle.std.proofs.Common.{◌<◌, length, arith}
use Rattle.kb_label.proofs.Forked.{leaves-forked}
use Rattle.mkb_rules.proofs.effects.forking.learn_short.Goals as goal

pub returns-clause-short : goal.returns-clause-short
returns-clause-short c =
    let short : length c.args.p.now < length c.args.log.now = (leaves-forked c.args.log.now c.are_forked.ensures.forked).short c.args.p.now c.requires.lives in
    omega (arith, short, c.requires.room)

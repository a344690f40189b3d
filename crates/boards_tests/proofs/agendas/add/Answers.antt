use Rattle.std.proofs.Common.{refl}
use Rattle.boards_tests.proofs.agendas.add.Goals as goal

pub add-requires-clause-absent : goal.add-requires-clause-absent
add-requires-clause-absent c h = ((c.remove.ensures.jobs c.args.job.now c.args.weight).0 h).1 (refl, refl)

use Rattle.std.proofs.Common.{arith}
use Rattle.mkb_pick.specs.Tasks.{IsAgenda}
use Rattle.mkb_pick.proofs.Tasks.{agenda_same, nodes_few}
use Rattle.mkb_pick.proofs.stores.Stores.copy_tasks.Goals as goal

pub copy-requires : goal.copy-requires
unfolding IsAgenda
copy-requires c = omega (arith, nodes_few c.args.tasks.now c.requires.agenda.0, c.requires.many, c.requires.some, c.requires.stocked)

pub returns-clause-tasks : goal.returns-clause-tasks
unfolding IsAgenda
returns-clause-tasks c = (agenda_same c.args.tasks.now c.copy.result c.copy.ensures.keys c.requires.agenda.1).0

pub returns-clause-agenda : goal.returns-clause-agenda
unfolding IsAgenda
returns-clause-agenda c = (c.copy.ensures.ordered c.requires.agenda.0, (agenda_same c.args.tasks.now c.copy.result c.copy.ensures.keys c.requires.agenda.1).1)

pub returns-clause-stocked : goal.returns-clause-stocked
unfolding IsAgenda
returns-clause-stocked c = omega (arith, c.copy.ensures.used, nodes_few c.args.tasks.now c.requires.agenda.0, c.requires.many, c.requires.some, c.requires.stocked)

use Rattle.mkb_pick.specs.Tasks.{IsAgenda}
use Rattle.mkb_pick.proofs.Tasks.{key_there, agenda_more}
use Rattle.mkb_pick.proofs.entry.add_to.Goals as goal

pub add-requires-clause-absent : goal.add-requires-clause-absent
unfolding IsAgenda
add-requires-clause-absent c h = c.requires.absent ((key_there c.args.tasks.now c.requires.agenda c.args.task.now c.key.result c.key.ensures).0 h)

pub returns-clause-items : goal.returns-clause-items
unfolding IsAgenda
returns-clause-items c = (agenda_more c.args.tasks.now c.add.new.tree c.args.task.now c.key.result c.key.ensures c.add.ensures.keys c.requires.agenda.1).0

pub returns-clause-agenda : goal.returns-clause-agenda
unfolding IsAgenda
returns-clause-agenda c = (c.add.ensures.ordered, (agenda_more c.args.tasks.now c.add.new.tree c.args.task.now c.key.result c.key.ensures c.add.ensures.keys c.requires.agenda.1).1)

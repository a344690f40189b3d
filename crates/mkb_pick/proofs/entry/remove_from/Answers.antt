use Rattle.mkb_pick.specs.Tasks.{IsAgenda}
use Rattle.mkb_pick.proofs.Tasks.{key_there, agenda_less}
use Rattle.mkb_pick.proofs.entry.remove_from.Goals as goal

pub returns-clause-found : goal.returns-clause-found
unfolding IsAgenda
returns-clause-found c =
    let there = key_there c.args.tasks.now c.requires c.args.task.now c.key.result c.key.ensures in
    (λ h. there.0 (c.remove.ensures.found.0 h), λ h. c.remove.ensures.found.1 (there.1 h))

pub returns-clause-items : goal.returns-clause-items
unfolding IsAgenda
returns-clause-items c = (agenda_less c.args.tasks.now c.remove.new.tree c.args.task.now c.key.result c.key.ensures c.remove.ensures.keys c.requires.1).0

pub returns-clause-agenda : goal.returns-clause-agenda
unfolding IsAgenda
returns-clause-agenda c = (c.remove.ensures.ordered, (agenda_less c.args.tasks.now c.remove.new.tree c.args.task.now c.key.result c.key.ensures c.remove.ensures.keys c.requires.1).1)

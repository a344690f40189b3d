use Rattle.std.proofs.Common.{◌≡◌, ◌⊎◌, ◌↔◌, ap, subst}
use Rattle.mkb_pick.specs.declared.task.Task.{Task}
use Rattle.mkb_pick.specs.declared.task.Work.{Work}
use Rattle.mkb_pick.specs.Tasks.{Has}
use Rattle.mkb_pick.proofs.Marked.{told_more}
use Rattle.mkb_pick.proofs.Tallied.{tally_more}
use Rattle.mkb_pick.proofs.queue.Entry.add.Goals as goal

pub returns-in-Reducing-clause-sound : goal.returns-in-Reducing-clause-sound
returns-in-Reducing-clause-sound c =
    let e = c.args.self.now in
    let item : Task = c.args.task.now in
    let work = c.in-Reducing.is in
    let added = subst (λ (x : Task). (t : Task) → Has c.add_to.new.tasks t ↔ ((t ≡ x) ⊎ Has e.tasks t)) (ap (λ (x : Work). record { work = x; weight = item.weight }) work) c.add_to.ensures.items in (
      c.add_to.ensures.agenda,
      told_more e.marks c.add.new.self e.tasks c.add_to.new.tasks c.in-Reducing.n.0 item.weight c.add.ensures added c.requires.sound.1,
      tally_more e.tally c.more-self.result e.tasks c.add_to.new.tasks c.more-self.ensures c.add_to.ensures.many c.requires.sound.2,
    )

use Rattle.std.proofs.Common.{◌≡◌, ◌↔◌, ap, subst}
use Rattle.mkb_pick.specs.declared.task.Task.{Task}
use Rattle.mkb_pick.specs.declared.task.Work.{Work}
use Rattle.mkb_pick.specs.Tasks.{Has}
use Rattle.mkb_pick.specs.Marks.{reducing}
use Rattle.mkb_pick.proofs.Marked.{told_fewer}
use Rattle.mkb_pick.proofs.Tallied.{tally_fewer}
use Rattle.mkb_pick.proofs.queue.Entry.remove.Goals as goal

pub returns-in-Reducing-clause-sound : goal.returns-in-Reducing-clause-sound
returns-in-Reducing-clause-sound c =
    let e = c.args.self.now in
    let item : Task = c.args.task.now in
    let same : item ≡ reducing c.in-Reducing.n.0 item.weight = ap (λ (x : Work). record { work = x; weight = item.weight }) c.in-Reducing.is in
    let fewer = subst (λ (x : Task). (t : Task) → Has c.remove_from.new.tasks t ↔ (Has e.tasks t × ¬ (t ≡ x))) same c.remove_from.ensures.items in
    let there = subst (Has e.tasks) same (c.remove_from.ensures.found.0 c.if-not-remove_from.false) in (
      c.remove_from.ensures.agenda,
      told_fewer e.marks c.remove.new.self e.tasks c.remove_from.new.tasks c.in-Reducing.n.0 item.weight c.remove.ensures fewer there c.requires.sound.1,
      tally_fewer e.tally c.fewer-self.result e.tasks c.remove_from.new.tasks c.fewer-self.ensures (c.remove_from.ensures.many c.if-not-remove_from.false) c.requires.sound.2,
    )

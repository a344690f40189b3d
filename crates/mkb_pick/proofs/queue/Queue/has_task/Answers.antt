use Rattle.std.proofs.Common.{sym}
use Rattle.mkb_pick.specs.declared.queue.Entry.{Entry}
use Rattle.mkb_pick.specs.Tasks.{Has}
use Rattle.mkb_pick.proofs.Replaced.{found_with, none_with}
use Rattle.mkb_pick.proofs.queue.Queue.has_task.Goals as goal

pub returns-in-Some : goal.returns-in-Some
returns-in-Some c =
    let at = c.in-Some.ensures in
    let e : Entry = c.index.result.now in
    let f = found_with c.args.self.now c.requires c.args.name.now e (c.in-Some.place, (at.0, at.1, sym c.index.ensures)) (λ x. Has x.tasks c.args.task.now) in
    (λ h. f.1 (c.is_in.ensures.0 h), λ h. c.is_in.ensures.1 (f.0 h))

pub returns-in-None : goal.returns-in-None
returns-in-None c = (λ h. absurd (cc), λ h. absurd (none_with c.args.self.now c.args.name.now c.in-None.ensures (λ x. Has x.tasks c.args.task.now) h))

use Rattle.std.proofs.Common.{sym, refl}
use Rattle.mkb_pick.specs.declared.queue.Entry.{Entry}
use Rattle.mkb_pick.specs.Tasks.{Has}
use Rattle.mkb_pick.specs.declared.task.Task.{Task}
use Rattle.mkb_pick.proofs.Replaced.{found_with, none_with}
use Rattle.mkb_pick.proofs.queue.Queue.is_idle.Goals as goal

pub returns-in-Some : goal.returns-in-Some
returns-in-Some c =
    let k = c.in-Some.place in
    let at = c.in-Some.ensures in
    let e : Entry = c.index.result.now in
    let f = λ (t : Task). found_with c.args.self.now c.requires c.args.name.now e (k, (at.0, at.1, sym c.index.ensures)) (λ x. Has x.tasks t) in
    (λ h t s. c.is_bare.ensures.0 h t ((f t).0 s), λ h. c.is_bare.ensures.1 (λ t s. h t ((f t).1 s)))

pub returns-in-None : goal.returns-in-None
returns-in-None c = (λ h t s. none_with c.args.self.now c.args.name.now c.in-None.ensures (λ x. Has x.tasks t) s, λ h. refl)

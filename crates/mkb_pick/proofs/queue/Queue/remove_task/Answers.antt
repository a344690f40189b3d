use Rattle.mkb_pick.specs.Tasks.{Has}
use Rattle.mkb_pick.specs.Queues.{Shows}
use Rattle.mkb_pick.specs.declared.queue.Entry.{Entry}
use Rattle.mkb_pick.proofs.Replaced.{changed, replaced, seats_stay, task_removed, found_with, with_same, task_lacked}
use Rattle.mkb_pick.proofs.queue.Queue.remove_task.Goals as goal

pub returns-in-Some-clause-found : goal.returns-in-Some-clause-found
returns-in-Some-clause-found c =
    let d : Entry = c.index_mut.result.now in
    let e : Entry = c.remove.new.self in
    let is = replaced c.args.self.now c.seek.new.self c.args.name.now c.in-Some.place d e c.requires.queue c.seek.ensures.names c.seek.ensures.entries c.in-Some.ensures.place c.index_mut.ensures.value in
    let f = found_with c.args.self.now c.requires.queue c.args.name.now d is.there (λ x. Has x.tasks c.args.task.now) in
    (λ h. f.1 (c.remove.ensures.found.0 h), λ h. c.remove.ensures.found.1 (f.0 h))

pub returns-in-Some-clause-seats : goal.returns-in-Some-clause-seats
returns-in-Some-clause-seats c =
    let d : Entry = c.index_mut.result.now in
    let e : Entry = c.remove.new.self in
    let is = replaced c.args.self.now c.seek.new.self c.args.name.now c.in-Some.place d e c.requires.queue c.seek.ensures.names c.seek.ensures.entries c.in-Some.ensures.place c.index_mut.ensures.value in
    seats_stay c.args.self.now (changed c.seek.new.self c.in-Some.place e) c.args.name.now d e is c.remove.ensures.cost c.remove.ensures.resting

pub returns-in-Some-clause-tasks : goal.returns-in-Some-clause-tasks
returns-in-Some-clause-tasks c =
    let d : Entry = c.index_mut.result.now in
    let e : Entry = c.remove.new.self in
    let is = replaced c.args.self.now c.seek.new.self c.args.name.now c.in-Some.place d e c.requires.queue c.seek.ensures.names c.seek.ensures.entries c.in-Some.ensures.place c.index_mut.ensures.value in
    task_removed c.args.self.now (changed c.seek.new.self c.in-Some.place e) c.args.name.now d e is c.args.task.now c.remove.ensures.tasks

pub returns-in-None-clause-seats : goal.returns-in-None-clause-seats
returns-in-None-clause-seats c n cost rests = with_same c.args.self.now c.seek.new.self c.seek.ensures.names c.seek.ensures.entries n (Shows cost rests)

pub returns-in-None-clause-tasks : goal.returns-in-None-clause-tasks
returns-in-None-clause-tasks c n t =
    let same = with_same c.args.self.now c.seek.new.self c.seek.ensures.names c.seek.ensures.entries n (λ x. Has x.tasks t) in
    let lacked = task_lacked c.args.self.now c.args.name.now c.args.task.now c.in-None.ensures.place n t in
    (λ h. lacked.0 (same.0 h), λ h. same.1 (lacked.1 h))

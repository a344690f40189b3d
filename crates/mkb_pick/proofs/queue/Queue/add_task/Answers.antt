use Rattle.mkb_pick.specs.declared.queue.Entry.{Entry}
use Rattle.mkb_pick.proofs.Replaced.{changed, replaced, seats_stay, task_added}
use Rattle.mkb_pick.proofs.queue.Queue.add_task.Goals as goal

pub add-requires-clause-absent : goal.add-requires-clause-absent
add-requires-clause-absent c h =
    let d : Entry = c.index_mut.result.now in
    let is = replaced c.args.self.now c.seek.new.self c.args.name.now c.in-Some.place d d c.requires.queue c.seek.ensures.names c.seek.ensures.entries c.in-Some.ensures.place c.index_mut.ensures.value in
    c.requires.absent (d, is.there, h)

pub returns-clause-seats : goal.returns-clause-seats
returns-clause-seats c =
    let d : Entry = c.index_mut.result.now in
    let e : Entry = c.add.new.self in
    let is = replaced c.args.self.now c.seek.new.self c.args.name.now c.in-Some.place d e c.requires.queue c.seek.ensures.names c.seek.ensures.entries c.in-Some.ensures.place c.index_mut.ensures.value in
    seats_stay c.args.self.now (changed c.seek.new.self c.in-Some.place e) c.args.name.now d e is c.add.ensures.cost c.add.ensures.resting

pub returns-clause-tasks : goal.returns-clause-tasks
returns-clause-tasks c =
    let d : Entry = c.index_mut.result.now in
    let e : Entry = c.add.new.self in
    let is = replaced c.args.self.now c.seek.new.self c.args.name.now c.in-Some.place d e c.requires.queue c.seek.ensures.names c.seek.ensures.entries c.in-Some.ensures.place c.index_mut.ensures.value in
    task_added c.args.self.now (changed c.seek.new.self c.in-Some.place e) c.args.name.now d e is c.args.task.now c.add.ensures.tasks

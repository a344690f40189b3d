use Rattle.std.proofs.Common.{refl}
use Rattle.mkb_pick.specs.declared.queue.Entry.{Entry}
use Rattle.mkb_pick.proofs.Replaced.{changed, replaced, tasks_stay, rest_set}
use Rattle.mkb_pick.proofs.queue.Queue.set_resting.Goals as goal

pub returns-clause-seats : goal.returns-clause-seats
returns-clause-seats c =
    let d : Entry = c.index_mut.result.now in
    let e : Entry = record { cost = d.cost; resting = c.args.resting; tasks = d.tasks; tally = d.tally; marks = d.marks } in
    let is = replaced c.args.self.now c.seek.new.self c.args.name.now c.in-Some.place d e c.requires.queue c.seek.ensures.names c.seek.ensures.entries c.in-Some.ensures.place c.index_mut.ensures.value in
    rest_set c.args.self.now (changed c.seek.new.self c.in-Some.place e) c.args.name.now d e is c.args.resting refl refl

pub returns-clause-tasks : goal.returns-clause-tasks
returns-clause-tasks c =
    let d : Entry = c.index_mut.result.now in
    let e : Entry = record { cost = d.cost; resting = c.args.resting; tasks = d.tasks; tally = d.tally; marks = d.marks } in
    let is = replaced c.args.self.now c.seek.new.self c.args.name.now c.in-Some.place d e c.requires.queue c.seek.ensures.names c.seek.ensures.entries c.in-Some.ensures.place c.index_mut.ensures.value in
    tasks_stay c.args.self.now (changed c.seek.new.self c.in-Some.place e) c.args.name.now d e is (λ t. (λ h. h, λ h. h))

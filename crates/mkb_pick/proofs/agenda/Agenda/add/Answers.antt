use Rattle.std.proofs.Common.{◌≡◌, ap, subst}
use Rattle.mkb_pick.proofs.Viewed.{seats_as_before, job_more, job_seen, task_in, seated, still_seen}
use Rattle.std.proofs.Common.{◌⊎◌, ◌↔◌}
use Rattle.kb_label.specs.Names.{Name}
use Rattle.mkb_model.specs.Jobs.{process_of}
use Rattle.mkb_pick.specs.Queues.{HasTask}
use Rattle.mkb_pick.specs.declared.task.Work.{Work}
use Rattle.mkb_pick.specs.declared.task.Task.{Task}
use Rattle.mkb_pick.proofs.agenda.Agenda.add.Goals as goal

pub add_task-requires-clause-seated : goal.add_task-requires-clause-seated
add_task-requires-clause-seated c =
    let is = still_seen c.self.inside.queue c.stock.new.queue c.args.self.now.processes (c.self.invariant.0, ap (λ v. v.processes) c.self.view_is) c.stock.ensures.queue c.stock.ensures.names c.stock.ensures.entries in
    rw c.process_of.ensures ((seated c.stock.new.queue c.args.self.now.processes is (process_of c.args.job.now)).0 c.requires.listed)

pub add_task-requires-clause-absent : goal.add_task-requires-clause-absent
add_task-requires-clause-absent c h =
    let is = still_seen c.self.inside.queue c.stock.new.queue c.args.self.now.processes (c.self.invariant.0, ap (λ v. v.processes) c.self.view_is) c.stock.ensures.queue c.stock.ensures.names c.stock.ensures.entries in
    let t : HasTask c.stock.new.queue (process_of c.args.job.now) (task_in c.args.job.now c.args.weight) =
    subst (λ n. HasTask c.stock.new.queue n (task_in c.args.job.now c.args.weight)) c.process_of.ensures (subst (HasTask c.stock.new.queue c.process_of.result) (ap (λ (x : Work). record { work = x; weight = c.args.weight }) c.of.ensures) h) in
    c.requires.absent ((job_seen c.stock.new.queue c.args.self.now.processes is c.args.job.now c.args.weight).1 t)

pub returns-clause-processes : goal.returns-clause-processes
returns-clause-processes c =
    let is = still_seen c.self.inside.queue c.stock.new.queue c.args.self.now.processes (c.self.invariant.0, ap (λ v. v.processes) c.self.view_is) c.stock.ensures.queue c.stock.ensures.names c.stock.ensures.entries in
    seats_as_before c.stock.new.queue c.add_task.new.self c.args.self.now.processes is c.add_task.ensures.queue c.add_task.ensures.seats

pub returns-clause-jobs : goal.returns-clause-jobs
returns-clause-jobs c =
    let is = still_seen c.self.inside.queue c.stock.new.queue c.args.self.now.processes (c.self.invariant.0, ap (λ v. v.processes) c.self.view_is) c.stock.ensures.queue c.stock.ensures.names c.stock.ensures.entries in
    job_more c.stock.new.queue c.add_task.new.self c.args.self.now.processes is c.add_task.ensures.queue c.args.job.now c.args.weight
    (subst (λ (t : Task). (n : Name) (x : Task) → HasTask c.add_task.new.self n x ↔ (((n ≡ process_of c.args.job.now) × (x ≡ t)) ⊎ HasTask c.stock.new.queue n x)) (ap (λ (x : Work). record { work = x; weight = c.args.weight }) c.of.ensures)
    (subst (λ (m : Name). (n : Name) (x : Task) → HasTask c.add_task.new.self n x ↔ (((n ≡ m) × (x ≡ record { work = c.of.result; weight = c.args.weight })) ⊎ HasTask c.stock.new.queue n x)) c.process_of.ensures c.add_task.ensures.tasks))

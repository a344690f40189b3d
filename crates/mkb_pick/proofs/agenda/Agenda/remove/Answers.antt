use Rattle.std.proofs.Common.{◌≡◌, sym, ap, subst}
use Rattle.mkb_pick.proofs.Viewed.{seats_as_before, job_less, job_seen, task_in}
use Rattle.std.proofs.Common.{◌↔◌}
use Rattle.kb_label.specs.Names.{Name}
use Rattle.mkb_model.specs.Jobs.{process_of}
use Rattle.mkb_pick.specs.Queues.{HasTask}
use Rattle.mkb_pick.specs.declared.task.Work.{Work}
use Rattle.mkb_pick.specs.declared.task.Task.{Task}
use Rattle.mkb_pick.proofs.agenda.Agenda.remove.Goals as goal

pub returns-clause-found : goal.returns-clause-found
returns-clause-found c =
    let e = ap (λ (x : Work). record { work = x; weight = c.args.weight }) c.of.ensures in
    let s = job_seen c.self.inside.queue c.args.self.now.processes (c.self.invariant.0, ap (λ v. v.processes) c.self.view_is) c.args.job.now c.args.weight in (
      λ h. s.1 (subst (λ n. HasTask c.self.inside.queue n (task_in c.args.job.now c.args.weight)) c.process_of.ensures (subst (HasTask c.self.inside.queue c.process_of.result) e (c.remove_task.ensures.found.0 h))),
      λ h. c.remove_task.ensures.found.1 (subst (HasTask c.self.inside.queue c.process_of.result) (sym e) (subst (λ n. HasTask c.self.inside.queue n (task_in c.args.job.now c.args.weight)) (sym c.process_of.ensures) (s.0 h))),
    )

pub returns-clause-processes : goal.returns-clause-processes
returns-clause-processes c = seats_as_before c.self.inside.queue c.remove_task.new.self c.args.self.now.processes (c.self.invariant.0, ap (λ v. v.processes) c.self.view_is) c.remove_task.ensures.queue c.remove_task.ensures.seats

pub returns-clause-jobs : goal.returns-clause-jobs
returns-clause-jobs c =
    job_less c.self.inside.queue c.remove_task.new.self c.args.self.now.processes (c.self.invariant.0, ap (λ v. v.processes) c.self.view_is) c.remove_task.ensures.queue c.args.job.now c.args.weight
    (subst (λ (t : Task). (n : Name) (x : Task) → HasTask c.remove_task.new.self n x ↔ (HasTask c.self.inside.queue n x × ¬ ((n ≡ process_of c.args.job.now) × (x ≡ t)))) (ap (λ (x : Work). record { work = x; weight = c.args.weight }) c.of.ensures)
    (subst (λ (m : Name). (n : Name) (x : Task) → HasTask c.remove_task.new.self n x ↔ (HasTask c.self.inside.queue n x × ¬ ((n ≡ m) × (x ≡ record { work = c.of.result; weight = c.args.weight })))) c.process_of.ensures c.remove_task.ensures.tasks))

use Rattle.std.proofs.Common.{ap, sym, subst}
use Rattle.mkb_pick.specs.Queues.{HasTask}
use Rattle.mkb_pick.specs.Tasks.{job_of}
use Rattle.mkb_pick.specs.declared.task.Task.{Task}
use Rattle.mkb_pick.proofs.Viewed.{job_seen, task_in, process_again, work_again}
use Rattle.mkb_pick.proofs.agenda.Agenda.is_idle.Goals as goal

pub returns : goal.returns
returns c =
    let q = c.self.inside.queue in
    let p = c.args.process.now in
    let s = job_seen q c.args.self.now.processes (c.self.invariant.0, ap (λ v. v.processes) c.self.view_is) in (
      λ h j w e k. c.is_idle.ensures.0 h (task_in j w) (subst (λ n. HasTask q n (task_in j w)) e ((s j w).0 k)),
      λ h. c.is_idle.ensures.1 (λ t k. h (job_of p t.work) t.weight (process_again p t.work)
          ((s (job_of p t.work) t.weight).1 (subst (λ n. HasTask q n (task_in (job_of p t.work) t.weight)) (sym (process_again p t.work)) (subst {A = Task} (HasTask q p) (ap (λ x. record { work = x; weight = t.weight }) (sym (work_again p t.work))) k)))),
    )

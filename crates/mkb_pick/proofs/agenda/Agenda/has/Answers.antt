use Rattle.std.proofs.Common.{sym, ap, subst}
use Rattle.mkb_pick.proofs.Viewed.{job_seen, task_in}
use Rattle.mkb_pick.specs.Queues.{HasTask}
use Rattle.mkb_pick.specs.declared.task.Work.{Work}
use Rattle.mkb_pick.proofs.agenda.Agenda.has.Goals as goal

pub returns : goal.returns
returns c =
    let e = ap (λ (x : Work). record { work = x; weight = c.args.weight }) c.of.ensures in
    let s = job_seen c.self.inside.queue c.args.self.now.processes (c.self.invariant.0, ap (λ v. v.processes) c.self.view_is) c.args.job.now c.args.weight in (
      λ h. s.1 (subst (λ n. HasTask c.self.inside.queue n (task_in c.args.job.now c.args.weight)) c.process_of.ensures (subst (HasTask c.self.inside.queue c.process_of.result) e (c.has_task.ensures.0 h))),
      λ h. c.has_task.ensures.1 (subst (HasTask c.self.inside.queue c.process_of.result) (sym e) (subst (λ n. HasTask c.self.inside.queue n (task_in c.args.job.now c.args.weight)) (sym c.process_of.ensures) (s.0 h))),
    )

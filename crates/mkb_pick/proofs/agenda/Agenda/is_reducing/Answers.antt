use Rattle.std.proofs.Common.{ap}
use Rattle.kb_node.specs.declared.job.Job.TheVariants.{Reduce}
use Rattle.mkb_pick.proofs.Viewed.{job_seen}
use Rattle.mkb_pick.proofs.agenda.Agenda.is_reducing.Goals as goal

pub returns : goal.returns
returns c =
    let s = job_seen c.self.inside.queue c.args.self.now.processes (c.self.invariant.0, ap (λ v. v.processes) c.self.view_is) (Reduce c.args.process.now c.args.n) in
    (λ h. let k = c.is_reducing.ensures.0 h in (k.0, (s k.0).1 k.1), λ h. c.is_reducing.ensures.1 (h.0, (s h.0).0 h.1))

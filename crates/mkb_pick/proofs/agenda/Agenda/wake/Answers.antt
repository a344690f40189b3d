use Rattle.std.proofs.Common.{ap, false}
use Rattle.mkb_pick.proofs.Viewed.{jobs_as_before, rest_seen, seated}
use Rattle.mkb_pick.proofs.agenda.Agenda.wake.Goals as goal

pub set_resting-requires-clause-seated : goal.set_resting-requires-clause-seated
set_resting-requires-clause-seated c = (seated c.self.inside.queue c.args.self.now.processes (c.self.invariant.0, ap (λ v. v.processes) c.self.view_is) c.args.process.now).0 c.requires

pub returns-clause-processes : goal.returns-clause-processes
returns-clause-processes c = rest_seen c.self.inside.queue c.set_resting.new.self c.args.self.now.processes (c.self.invariant.0, ap (λ v. v.processes) c.self.view_is) c.set_resting.ensures.queue c.args.process.now false c.set_resting.ensures.seats

pub returns-clause-jobs : goal.returns-clause-jobs
returns-clause-jobs c = jobs_as_before c.self.inside.queue c.set_resting.new.self c.args.self.now.processes (c.self.invariant.0, ap (λ v. v.processes) c.self.view_is) c.set_resting.ensures.queue c.set_resting.ensures.tasks

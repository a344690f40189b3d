use Rattle.std.proofs.Common.{ap}
use Rattle.mkb_pick.proofs.Viewed.{jobs_as_before, cost_seen, seated}
use Rattle.mkb_pick.proofs.agenda.Agenda.set_cost.Goals as goal

pub set_cost-requires-clause-seated : goal.set_cost-requires-clause-seated
set_cost-requires-clause-seated c = (seated c.self.inside.queue c.args.self.now.processes (c.self.invariant.0, ap (λ v. v.processes) c.self.view_is) c.args.process.now).0 c.requires

pub returns-clause-processes : goal.returns-clause-processes
returns-clause-processes c = cost_seen c.self.inside.queue c.set_cost.new.self c.args.self.now.processes (c.self.invariant.0, ap (λ v. v.processes) c.self.view_is) c.set_cost.ensures.queue c.args.process.now c.args.cost c.set_cost.ensures.seats

pub returns-clause-jobs : goal.returns-clause-jobs
returns-clause-jobs c = jobs_as_before c.self.inside.queue c.set_cost.new.self c.args.self.now.processes (c.self.invariant.0, ap (λ v. v.processes) c.self.view_is) c.set_cost.ensures.queue c.set_cost.ensures.tasks

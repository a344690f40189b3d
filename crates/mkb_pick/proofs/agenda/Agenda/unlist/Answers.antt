use Rattle.std.proofs.Common.{ap}
use Rattle.mkb_pick.specs.Tasks.{Has}
use Rattle.mkb_pick.specs.Queues.{Shows}
use Rattle.mkb_pick.proofs.Viewed.{gone_seen, jobs_gone_seen, seated}
use Rattle.mkb_pick.proofs.Replaced.{with_gone}
use Rattle.mkb_pick.proofs.agenda.Agenda.unlist.Goals as goal

pub strike-requires-clause-seated : goal.strike-requires-clause-seated
strike-requires-clause-seated c = (seated c.self.inside.queue c.args.self.now.processes (c.self.invariant.0, ap (λ v. v.processes) c.self.view_is) c.args.process.now).0 c.requires

pub returns-clause-processes : goal.returns-clause-processes
returns-clause-processes c =
    gone_seen c.self.inside.queue c.strike.new.self c.args.self.now.processes (c.self.invariant.0, ap (λ v. v.processes) c.self.view_is) c.strike.ensures.queue c.args.process.now
    (λ n cost rests. with_gone c.self.inside.queue c.strike.new.self c.args.process.now c.strike.ensures.entries n (Shows cost rests))

pub returns-clause-jobs : goal.returns-clause-jobs
returns-clause-jobs c =
    jobs_gone_seen c.self.inside.queue c.strike.new.self c.args.self.now.processes (c.self.invariant.0, ap (λ v. v.processes) c.self.view_is) c.strike.ensures.queue c.args.process.now
    (λ n t. with_gone c.self.inside.queue c.strike.new.self c.args.process.now c.strike.ensures.entries n (λ x. Has x.tasks t))

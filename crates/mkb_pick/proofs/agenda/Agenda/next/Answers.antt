use Rattle.std.proofs.Common.{ap}
use Rattle.mkb_pick.proofs.Offered.{next_offered}
use Rattle.mkb_pick.proofs.agenda.Agenda.next.Goals as goal

pub returns : goal.returns
returns c = next_offered c.self.inside.queue c.args.self.now.processes (c.self.invariant.0, ap (λ v. v.processes) c.self.view_is) c.args.flight.now c.next_job.result c.next_job.ensures

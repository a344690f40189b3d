use Rattle.std.proofs.Common.{ap}
use Rattle.mkb_pick.proofs.Viewed.{seated}
use Rattle.mkb_pick.proofs.agenda.Agenda.is_listed.Goals as goal

pub returns : goal.returns
returns c =
    let s = seated c.self.inside.queue c.args.self.now.processes (c.self.invariant.0, ap (λ v. v.processes) c.self.view_is) c.args.process.now in
    (λ h. s.1 (c.is_seated.ensures.0 h), λ h. c.is_seated.ensures.1 (s.0 h))

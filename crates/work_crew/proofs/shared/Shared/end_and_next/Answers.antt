use Rattle.std.proofs.Common.{inl, inr, refl}
use Rattle.work_crew.proofs.Growing.{grows_on}
use Rattle.work_crew.proofs.shared.Shared.end_and_next.Goals as goal

pub returns-in-Ok-clause-turn : goal.returns-in-Ok-clause-turn
returns-in-Ok-clause-turn c = inl (c.end.new.self, c.in-Ok.ensures.ok, c.go_on.ensures.after)

pub returns-in-Err-clause-turn : goal.returns-in-Err-clause-turn
returns-in-Err-clause-turn c = inr (c.in-Err.ensures.err, refl)

pub returns-in-Ok-clause-grows : goal.returns-in-Ok-clause-grows
returns-in-Ok-clause-grows c = grows_on c.args.assignment.now.ticket.worker c.args.self.now c.end.new.self c.go_on.new.self c.end.ensures.grows c.go_on.ensures.grows

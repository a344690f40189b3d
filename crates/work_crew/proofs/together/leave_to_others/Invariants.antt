use Rattle.work_crew.specs.Together.{IsSameSeat, Rests}
use Rattle.work_crew.proofs.together.leave_to_others.Given as goal

abbrev pub invariant-loop-nap : goal.invariant-loop-nap
invariant-loop-nap g l = Rests l.place.turns l.seat × IsSameSeat l.initial.seat l.seat

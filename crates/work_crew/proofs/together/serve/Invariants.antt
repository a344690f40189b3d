use Rattle.work_crew.specs.Together.{HoldsNext, IsSameSeat, Rests}
use Rattle.work_crew.proofs.together.serve.Given as goal

abbrev pub invariant-loop : goal.invariant-loop
invariant-loop g l = Rests l.place.turns l.seat × IsSameSeat l.initial.seat l.seat × HoldsNext l.place.turns l.seat l.next

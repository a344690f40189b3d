use Rattle.mkb_rounds.specs.Outcomes.{AreRight}
use Rattle.mkb_rounds.proofs.stealing.work_short.Given as goal

abbrev pub invariant-loop-place : goal.invariant-loop-place
invariant-loop-place g l = AreRight l.round l.outcomes.items

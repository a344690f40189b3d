use Rattle.kb_goals.proofs.FrontRead.{AreReadLines}
use Rattle.kb_goals.proofs.front.up_to_end.Given as goal

-- the lines so far, and where the next begins
abbrev pub invariant-loop-count : goal.invariant-loop-count
invariant-loop-count l = AreReadLines l.text l.count l.at

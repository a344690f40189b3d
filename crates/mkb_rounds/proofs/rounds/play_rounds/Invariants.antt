use Rattle.work_crew.specs.Alone.{IsSameRun}
use Rattle.mkb_rounds.specs.Playing.{IsBetweenRounds}
use Rattle.mkb_rounds.proofs.rounds.play_rounds.Given as goal

abbrev pub invariant-loop : goal.invariant-loop
invariant-loop g l = IsBetweenRounds l.board × IsSameRun l.initial.board l.board

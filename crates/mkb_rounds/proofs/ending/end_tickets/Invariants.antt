use Rattle.std.proofs.Common.{drop}
use Rattle.work_crew.specs.Alone.{IsSameRun}
use Rattle.mkb_rounds.specs.Outcomes.{AreRight}
use Rattle.mkb_rounds.specs.Playing.{IsEndingRound}
use Rattle.mkb_rounds.proofs.ending.end_tickets.Given as goal

abbrev pub invariant-loop-place : goal.invariant-loop-place
invariant-loop-place g l = IsEndingRound l.board (drop l.place l.round) × AreRight l.round l.outcomes.items × IsSameRun l.initial.board l.board

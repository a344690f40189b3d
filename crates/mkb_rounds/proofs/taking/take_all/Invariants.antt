use Rattle.std.proofs.Common.{◌≡◌, length}
use Rattle.work_crew.specs.Alone.{IsSameRun}
use Rattle.mkb_rounds.specs.Playing.{IsTakingRound}
use Rattle.mkb_rounds.proofs.taking.take_all.Given as goal

abbrev pub invariant-loop : goal.invariant-loop
invariant-loop g l = IsTakingRound l.board l.round.items × (length l.round.items ≡ l.counter) × IsSameRun l.initial.board l.board

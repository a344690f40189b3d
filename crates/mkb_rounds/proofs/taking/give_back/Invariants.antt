use Rattle.std.proofs.Common.{drop}
use Rattle.work_crew.specs.Alone.{IsSameRun}
use Rattle.mkb_rounds.specs.Playing.{IsLeftWith}
use Rattle.mkb_rounds.proofs.taking.give_back.Given as goal

abbrev pub invariant-loop-assignment : goal.invariant-loop-assignment
invariant-loop-assignment l = IsLeftWith l.board (drop l.assignment-index l.tickets) × IsSameRun l.initial.board l.board

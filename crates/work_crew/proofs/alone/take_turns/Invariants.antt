use Rattle.std.proofs.Common.{◌-◌}
use Rattle.work_crew.specs.Alone.{IsInTurn, IsSameRun}
use Rattle.work_crew.proofs.alone.take_turns.Given as goal

abbrev pub invariant-turns : goal.invariant-turns
invariant-turns g l = IsInTurn l.board × IsSameRun l.initial.board l.board

-- each turn commits once
abbrev pub decreases-turns : goal.decreases-turns
decreases-turns g l = l.board.plain.settings.budget - l.board.plain.commits

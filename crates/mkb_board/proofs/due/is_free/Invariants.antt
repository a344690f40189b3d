use Rattle.std.proofs.Common.{◌≡◌, drop}
use Rattle.std.specs.List.{list_any}
use Rattle.mkb_model.specs.Jobs.{clashes}
use Rattle.mkb_board.specs.Choosing.{jobs_of}
use Rattle.mkb_board.proofs.due.is_free.Given as goal

-- the job clashes with none so far
abbrev pub invariant-loop-i : goal.invariant-loop-i
invariant-loop-i l = list_any (clashes l.job) (jobs_of l.flight) ≡ list_any (clashes l.job) (jobs_of (drop l.i l.flight))

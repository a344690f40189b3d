use Rattle.std.proofs.Common.{◌≡◌, drop}
use Rattle.std.specs.Prelude.{is_some}
use Rattle.std.specs.List.{list_any}
use Rattle.mkb_model.specs.DueJobs.{first_job}
use Rattle.mkb_board.specs.Choosing.{jobs_of}
use Rattle.mkb_board.proofs.AnyJob.{gets_job}
use Rattle.mkb_board.proofs.takable.has_first.Given as goal

-- no process so far gets a job
abbrev pub invariant-loop-i : goal.invariant-loop-i
invariant-loop-i l = is_some (first_job (record l.state { flight = l.flight })) ≡ list_any (gets_job l.state (jobs_of l.flight)) (drop l.i l.state.living)

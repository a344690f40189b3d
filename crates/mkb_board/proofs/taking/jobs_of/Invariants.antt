use Rattle.std.proofs.Common.{◌≡◌, take}
use Rattle.mkb_board.specs.Choosing.{jobs_of}
use Rattle.mkb_board.proofs.taking.jobs_of.Given as goal

-- the jobs of the tickets so far
abbrev pub invariant-loop-ticket : goal.invariant-loop-ticket
invariant-loop-ticket l = l.jobs.items ≡ jobs_of (take l.ticket-index l.flight)

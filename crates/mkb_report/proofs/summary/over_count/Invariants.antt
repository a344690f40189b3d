use Rattle.std.proofs.Common.{◌≡◌, filter, length, take}
use Rattle.mkb_model.specs.Plain.{is_over}
use Rattle.mkb_report.proofs.summary.over_count.Given as goal

-- those of the processes so far that gave up
abbrev pub invariant-loop-i : goal.invariant-loop-i
invariant-loop-i l = l.count ≡ length (filter (is_over l.state) (take l.i l.processes))

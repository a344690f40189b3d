use Rattle.std.proofs.Common.{◌≡◌, ◌+◌, drop}
use Rattle.mkb_report.specs.Cited.{number_with}
use Rattle.mkb_report.proofs.report.number_with.Given as goal

-- the steps so far have other pairs
abbrev pub invariant-loop-i : goal.invariant-loop-i
invariant-loop-i l = number_with l.steps l.pair ≡ l.i + number_with (drop l.i l.steps) l.pair

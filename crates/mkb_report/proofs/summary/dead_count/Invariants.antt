use Rattle.std.proofs.Common.{◌≡◌, filter, length, take}
use Rattle.mkb_rules.specs.Parts.{plain_nodes}
use Rattle.mkb_report.specs.Summaries.{is_dead}
use Rattle.mkb_report.proofs.summary.dead_count.Given as goal

-- the dead ones of the nodes so far
abbrev pub invariant-loop-i : goal.invariant-loop-i
invariant-loop-i l = l.count ≡ length (filter is_dead (plain_nodes (take l.i l.table)))

use Rattle.std.proofs.Common.{take}
use Rattle.kb_jobs.specs.Rules.{listed}
use Rattle.kb_jobs.specs.Closing.{AddsRow}
use Rattle.kb_jobs.proofs.closing.push_row.Given as goal

-- the groups with the rules so far as inner are added
abbrev pub invariant-loop-j : goal.invariant-loop-j
invariant-loop-j l = AddsRow (listed l.rules) (take l.j (listed l.rules)) l.i l.fn.groups.items l.groups.items

use Rattle.std.proofs.Common.{take}
use Rattle.kb_jobs.specs.Groups.{AddsPairs, overlaps_in}
use Rattle.kb_jobs.proofs.Adding.{Within}
use Rattle.kb_jobs.proofs.overlapping.push_pairs.Given as goal

-- no overlap so far passes a limit, and their pairs are added
abbrev pub invariant-loop-i : goal.invariant-loop-i
invariant-loop-i l = Within (take l.i (overlaps_in l.g)) × AddsPairs (take l.i (overlaps_in l.g)) l.fn.pairs.items l.pairs.items

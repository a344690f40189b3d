use Rattle.std.proofs.Common.{take, flat_map}
use Rattle.mkb_model.specs.Proposals.{AreDeduced}
use Rattle.kb_jobs.specs.Groups.{overlaps_in}
use Rattle.kb_jobs.proofs.Adding.{Within}
use Rattle.kb_jobs.proofs.overlapping.overlap.Given as goal

-- no overlap of the groups so far passes a limit, and their pairs are there
abbrev pub invariant-loop-i : goal.invariant-loop-i
invariant-loop-i l = Within (flat_map overlaps_in (take l.i l.groups.items)) × AreDeduced l.pairs.items (flat_map overlaps_in (take l.i l.groups.items))

use Rattle.std.proofs.Common.{take, flat_map}
use Rattle.kb_jobs.specs.Groups.{overlaps_in}
use Rattle.kb_jobs.specs.Closing.{IsSettled}
use Rattle.kb_jobs.proofs.closing.close.Given as goal

-- the overlaps of the groups so far are settled
abbrev pub invariant-loop-i : goal.invariant-loop-i
invariant-loop-i l = IsSettled l.s (flat_map overlaps_in (take l.i l.groups.items)) l.seen

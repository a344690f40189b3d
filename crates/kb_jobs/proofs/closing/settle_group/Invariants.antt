use Rattle.std.proofs.Common.{List, ◌++◌, take, Contains}
use Rattle.mkb_model.specs.Proposals.{NamedOverlap, IsFormed}
use Rattle.kb_jobs.specs.Rules.{listed}
use Rattle.kb_jobs.specs.Groups.{overlaps_in}
use Rattle.kb_jobs.specs.Closing.{IsSettled}
use Rattle.kb_jobs.proofs.closing.settle_group.Given as goal

-- the overlaps so far have normal forms, and are settled
abbrev pub invariant-loop-i : goal.invariant-loop-i
invariant-loop-i l =
    ((o : NamedOverlap) → Contains (take l.i (overlaps_in l.g)) o → IsFormed (listed l.s.rules) o)
    × ((before : List NamedOverlap) → IsSettled l.s before l.fn.seen → IsSettled l.s (before ++ take l.i (overlaps_in l.g)) l.seen)

use Rattle.std.proofs.Common.{take}
use Rattle.std.specs.Prelude.{map}
use Rattle.kb_overlap.specs.Overlap.{ListsOverlaps}
use Rattle.kb_overlap.specs.View.{overlap_of}
use Rattle.kb_overlap.proofs.overlap.overlaps.Given as goal

-- the overlaps at the positions so far
abbrev pub invariant-loop-position : goal.invariant-loop-position
invariant-loop-position l = ListsOverlaps l.outer l.inner (take l.position-index l.position-items) (map overlap_of l.found.items)

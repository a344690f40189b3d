use Rattle.kb_overlap.specs.Overlap.{overlap_positions}
use Rattle.kb_overlap.proofs.Uniqueness.{lists_alike, overlap_alike}
use Rattle.kb_overlap.proofs.alike.overlaps_alike.Goals as goal

pub returns-clause-lists : goal.returns-clause-lists
returns-clause-lists c outer inner same = lists_alike outer inner (overlap_positions outer same)

pub returns-clause-overlaps : goal.returns-clause-overlaps
returns-clause-overlaps c = overlap_alike

use Rattle.std.proofs.Common.{◌≡◌, ◌*◌, ◌≤◌, All, List, length}
use Rattle.kb_overlap.specs.Overlap.{Overlap}
use Rattle.kb_checker.specs.Verdicts.{Closes, AreOuterOverlaps}
use Rattle.kb_checker.proofs.closing.first_unclosed.Given as goal

-- the overlaps of the outer rules so far close, and are counted
abbrev pub invariant-loop-i : goal.invariant-loop-i
invariant-loop-i l = (os : List Overlap) × AreOuterOverlaps l.system l.i os × All (Closes l.system) os × (l.count ≡ length os) × (l.count ≤ 2097152 * l.i)

use Rattle.std.proofs.Common.{ℕ, ◌≡◌, ◌+◌, ◌*◌, ◌<◌, ◌≤◌, All, List, length, get_or}
use Rattle.kb_overlap.specs.Overlap.{Overlap}
use Rattle.kb_checker.specs.Verdicts.{Closes, AreInnerOverlaps}
use Rattle.kb_checker.proofs.closing.close_row.Given as goal

-- the overlaps with the inner rules below some number close, and are counted; the partners so far are below it, and the others are not
abbrev pub invariant-loop-k : goal.invariant-loop-k
invariant-loop-k l =
    (b : ℕ) × (os : List Overlap) × AreInnerOverlaps l.system l.i b os × All (Closes l.system) os × (l.count ≡ l.start + length os) × (l.count ≤ l.start + 512 * b)
    × (b ≤ length l.system) × ((m : ℕ) → m < l.k → get_or l.keys.items m 0 < b) × ((m : ℕ) → l.k ≤ m → m < length l.keys.items → b ≤ get_or l.keys.items m 0)

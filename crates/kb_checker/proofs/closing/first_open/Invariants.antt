use Rattle.std.proofs.Common.{take, All, map}
use Rattle.kb_overlap.specs.View.{overlap_of}
use Rattle.kb_checker.specs.Verdicts.{Closes}
use Rattle.kb_checker.proofs.closing.first_open.Given as goal

-- the overlaps so far close
abbrev pub invariant-loop-k : goal.invariant-loop-k
invariant-loop-k l = All (Closes l.system) (take l.k (map overlap_of l.found))

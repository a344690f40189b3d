use Rattle.kb_checker.specs.Partners.{HoldsLeftSides}
use Rattle.kb_checker.proofs.pairing.left_sides.Given as goal

-- the left sides of the rules so far are in the index
abbrev pub invariant-loop-i : goal.invariant-loop-i
invariant-loop-i l = HoldsLeftSides l.i l.rules l.index

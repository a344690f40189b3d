use Rattle.std.proofs.Common.{◌≡◌, take}
use Rattle.kb_term.specs.View.{equations_of_list}
use Rattle.mkb_board.proofs.snapshots.closing.copied.Given as goal

-- the equations so far
abbrev pub invariant-loop-i : goal.invariant-loop-i
invariant-loop-i l = equations_of_list l.copy.items ≡ equations_of_list (take l.i l.equations)

use Rattle.std.proofs.Common.{◌≡◌, take}
use Rattle.mkb_board.proofs.shelf.are_same.Given as goal

-- those so far are the same
abbrev pub invariant-loop-i : goal.invariant-loop-i
invariant-loop-i l = take l.i l.some ≡ take l.i l.others

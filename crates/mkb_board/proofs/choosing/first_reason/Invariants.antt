use Rattle.std.proofs.Common.{◌≡◌, drop}
use Rattle.std.specs.List.{find}
use Rattle.mkb_model.specs.Plain.{is_over}
use Rattle.mkb_board.proofs.choosing.first_reason.Given as goal

-- those so far have not given up
abbrev pub invariant-loop-i : goal.invariant-loop-i
invariant-loop-i l = find (is_over l.state) l.state.living ≡ find (is_over l.state) (drop l.i l.state.living)

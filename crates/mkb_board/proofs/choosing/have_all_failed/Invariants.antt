use Rattle.std.proofs.Common.{◌≡◌, drop}
use Rattle.std.specs.List.{list_all}
use Rattle.mkb_model.specs.Sleeping.{is_failed}
use Rattle.mkb_board.proofs.choosing.have_all_failed.Given as goal

-- those so far have failed
abbrev pub invariant-loop-i : goal.invariant-loop-i
invariant-loop-i l = list_all (is_failed l.state) l.state.living ≡ list_all (is_failed l.state) (drop l.i l.state.living)

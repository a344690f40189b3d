use Rattle.std.proofs.Common.{◌≡◌, ◌||◌, drop}
use Rattle.std.specs.List.{list_all}
use Rattle.kb_label.specs.Names.{Name}
use Rattle.mkb_model.specs.Plain.{is_over}
use Rattle.mkb_model.specs.Sleeping.{is_failed}
use Rattle.mkb_board.proofs.choosing.have_all_stopped.Given as goal

-- those so far have failed or given up
abbrev pub invariant-loop-i : goal.invariant-loop-i
invariant-loop-i l = list_all (λ (p : Name). is_failed l.state p || is_over l.state p) l.state.living ≡ list_all (λ (p : Name). is_failed l.state p || is_over l.state p) (drop l.i l.state.living)

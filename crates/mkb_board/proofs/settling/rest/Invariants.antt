use Rattle.std.proofs.Common.{◌-◌, ◌≡◌, vec_len}
use Rattle.std.specs.Fn.{iterate}
use Rattle.mkb_model.specs.Invariants.{IsLabel}
use Rattle.mkb_model.specs.Sleeping.{rested, with_one_asleep}
use Rattle.mkb_board.specs.Listed.{IsAgenda}
use Rattle.mkb_board.specs.Working.{IsWorking}
use Rattle.mkb_board.proofs.Sleepers.{DiffersInSleepers}
use Rattle.mkb_board.proofs.settling.rest.Given as goal

-- who sleeps is a label, and with those that are still to fall asleep it is who sleeps in the end
abbrev pub invariant-loop : goal.invariant-loop
invariant-loop l = record {
  differs : DiffersInSleepers l.fn.state l.state;
  label : IsLabel l.fn.state l.state.asleep;
  works : IsWorking l.state l.working;
  agenda : IsAgenda l.state l.agenda;
  left : iterate (with_one_asleep l.fn.state) (vec_len l.fn.working - l.counter) l.state.asleep ≡ rested l.fn.state;
}

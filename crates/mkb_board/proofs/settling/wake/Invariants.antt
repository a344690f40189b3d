use Rattle.std.proofs.Common.{◌-◌, ◌≡◌, ◌≤◌, length, vec_len}
use Rattle.std.specs.Fn.{iterate}
use Rattle.mkb_model.specs.Invariants.{IsLabel}
use Rattle.mkb_model.specs.Sleeping.{most_awake, with_one_awake, working}
use Rattle.mkb_board.specs.Listed.{IsAgenda}
use Rattle.mkb_board.specs.Working.{IsWorking}
use Rattle.mkb_board.proofs.Sleepers.{DiffersInSleepers}
use Rattle.mkb_board.proofs.settling.wake.Given as goal

-- who sleeps is a label, and without those that are still to wake it is who sleeps in the end
abbrev pub invariant-loop : goal.invariant-loop
invariant-loop l = record {
  differs : DiffersInSleepers l.fn.state l.state;
  label : IsLabel l.fn.state l.state.asleep;
  works : IsWorking l.state l.working;
  agenda : IsAgenda l.state l.agenda;
  few : vec_len l.working ≤ l.counter;
  left : iterate (with_one_awake l.fn.state) (most_awake - l.counter) l.state.asleep ≡ iterate (with_one_awake l.fn.state) (most_awake - length (working l.fn.state l.fn.state.asleep)) l.fn.state.asleep;
}

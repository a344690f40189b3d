use Rattle.std.proofs.Common.{◌≡◌, filter, drop}
use Rattle.std.specs.Prelude.{IfSome}
use Rattle.mkb_model.specs.Jobs.{least}
use Rattle.mkb_model.specs.Sleeping.{is_active, process_cmp, waiting}
use Rattle.mkb_board.specs.Choosing.{merged}
use Rattle.mkb_board.proofs.Sleepers.{process_in, IsPriced}
use Rattle.mkb_board.proofs.settling.least_waiting.Given as goal

-- the best so far and the waiting processes that are left give the least
abbrev pub invariant-loop-i : goal.invariant-loop-i
invariant-loop-i l = record {
  pick : merged (process_cmp l.state) (process_in l.best) (least (process_cmp l.state) (filter (is_active l.state) (drop l.i l.state.asleep))) ≡ least (process_cmp l.state) (waiting l.state l.state.asleep);
  priced : IfSome l.best (IsPriced l.state);
}

use Rattle.std.proofs.Common.{◌≡◌, false, take}
use Rattle.std.specs.List.{list_any}
use Rattle.mkb_model.specs.Jobs.{clashes}
use Rattle.mkb_pick.proofs.task.is_free.Given as goal

-- none so far clashes
abbrev pub invariant-loop-other : goal.invariant-loop-other
invariant-loop-other l = list_any (clashes l.job) (take l.other-index l.flight) ≡ false

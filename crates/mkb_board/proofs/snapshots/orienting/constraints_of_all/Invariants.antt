use Rattle.std.proofs.Common.{◌≡◌, filter, flat_map}
use Rattle.mkb_model.specs.Plain.{directions, is_constraint, numbers_from}
use Rattle.mkb_board.proofs.snapshots.orienting.constraints_of_all.Given as goal

-- those of the nodes so far
abbrev pub invariant-loop-n : goal.invariant-loop-n
invariant-loop-n l = l.constraints.items ≡ filter (is_constraint l.state l.p) (flat_map directions (numbers_from 0 l.n))

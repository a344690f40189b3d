use Rattle.std.proofs.Common.{◌≡◌, ◌≤◌, ◌*◌}
use Rattle.std.specs.Prelude.{sum_by}
use Rattle.mkb_model.specs.Plain.{numbers_from, node_size}
use Rattle.mkb_board.specs.Choosing.{role_count}
use Rattle.mkb_board.proofs.cost.cost.Given as goal

-- what the nodes so far add to the cost
abbrev pub invariant-loop-n : goal.invariant-loop-n
invariant-loop-n l = record {
  value : l.total ≡ sum_by (λ m. role_count l.state l.p m * node_size l.state m) (numbers_from 0 l.n);
  small : l.total ≤ 5120 * l.n;
}

use Rattle.std.proofs.Common.{◌≡◌, ◌+◌, ◌-◌, ◌≤◌, length}
use Rattle.kb_kbo.proofs.Weighing.{NoneBelow}
use Rattle.kb_kbo.proofs.search.+search.Given as goal

abbrev pub decreases-search : goal.decreases-search
decreases-search l = l.left

-- the weights are as before, and no order that goes on with one of the weights so far orients the rules
abbrev pub invariant-loop-weight : goal.invariant-loop-weight
invariant-loop-weight l = record {
  weights : l.weights.items ≡ l.initial.weights.items;
  least : 1 ≤ l.weight;
  none : NoneBelow l.rules (length l.initial.weights.items + l.left) (l.left - 1) l.initial.weights.items l.weight;
}

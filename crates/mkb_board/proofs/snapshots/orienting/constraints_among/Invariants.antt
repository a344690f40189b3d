use Rattle.std.proofs.Common.{◌≡◌, map, filter, flat_map, take}
use Rattle.kb_node.specs.declared.node.NodeId.{NodeId}
use Rattle.mkb_model.specs.Plain.{directions, is_constraint}
use Rattle.mkb_board.proofs.snapshots.orienting.constraints_among.Given as goal

-- those of the nodes so far
abbrev pub invariant-loop-i : goal.invariant-loop-i
invariant-loop-i l = l.constraints.items ≡ filter (is_constraint l.state l.p) (flat_map directions (map (λ (n : NodeId). n.0) (take l.i l.constrained)))

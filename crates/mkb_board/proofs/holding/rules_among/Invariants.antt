use Rattle.std.proofs.Common.{◌≡◌, map, filter, flat_map, take}
use Rattle.kb_node.specs.declared.node.NodeId.{NodeId}
use Rattle.mkb_model.specs.Plain.{directions, is_rule}
use Rattle.mkb_board.proofs.holding.rules_among.Given as goal

-- the rules in the nodes so far
abbrev pub invariant-loop-i : goal.invariant-loop-i
invariant-loop-i l = l.rules.items ≡ filter (is_rule l.state l.p) (flat_map directions (map (λ (n : NodeId). n.0) (take l.i l.held)))

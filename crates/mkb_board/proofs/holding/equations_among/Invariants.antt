use Rattle.std.proofs.Common.{◌≡◌, map, filter, take}
use Rattle.kb_node.specs.declared.node.NodeId.{NodeId}
use Rattle.mkb_model.specs.Plain.{is_equation}
use Rattle.mkb_board.proofs.holding.equations_among.Given as goal

-- those so far that are equations
abbrev pub invariant-loop-i : goal.invariant-loop-i
invariant-loop-i l = map (λ (n : NodeId). n.0) l.equations.items ≡ filter (is_equation l.state l.p) (map (λ (n : NodeId). n.0) (take l.i l.held))

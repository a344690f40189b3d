use Rattle.std.proofs.Common.{◌≡◌, map, filter, take}
use Rattle.kb_node.specs.declared.node.NodeId.{NodeId}
use Rattle.mkb_rules.specs.Roles.{is_in_use, roles_of}
use Rattle.mkb_board.proofs.holding.held_among.Given as goal

-- those so far that the process has
abbrev pub invariant-loop-i : goal.invariant-loop-i
invariant-loop-i l = map (λ (n : NodeId). n.0) l.held.items ≡ filter (λ n. is_in_use (roles_of l.state l.p n)) (map (λ (n : NodeId). n.0) (take l.i l.alive))

use Rattle.std.proofs.Common.{◌≡◌, map, filter}
use Rattle.kb_node.specs.declared.node.NodeId.{NodeId}
use Rattle.mkb_model.specs.Plain.{numbers_from}
use Rattle.mkb_rules.specs.Roles.{is_in_use, roles_of}
use Rattle.mkb_board.proofs.holding.held_of_all.Given as goal

-- those so far that the process has
abbrev pub invariant-loop-n : goal.invariant-loop-n
invariant-loop-n l = map (λ (n : NodeId). n.0) l.held.items ≡ filter (λ n. is_in_use (roles_of l.state l.p n)) (numbers_from 0 l.n)

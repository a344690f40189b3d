use Rattle.std.proofs.Common.{◌≡◌, take, map}
use Rattle.kb_node.specs.declared.node.NodeId.{NodeId}
use Rattle.mkb_model.specs.Plain.{equations_at}
use Rattle.kb_jobs.specs.Closing.{equations_of}
use Rattle.mkb_board.proofs.snapshots.closing.equations_at.Given as goal

-- the equations of the nodes so far
abbrev pub invariant-loop-i : goal.invariant-loop-i
invariant-loop-i l = equations_of l.pairs.items ≡ equations_at l.state (map (λ (n : NodeId). n.0) (take l.i l.nodes))

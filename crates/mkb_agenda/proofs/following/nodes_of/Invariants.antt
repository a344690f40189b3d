use Rattle.std.proofs.Common.{All, take}
use Rattle.kb_node.specs.declared.node.NodeId.{NodeId}
use Rattle.mkb_rules.specs.Named.{IsThere}
use Rattle.mkb_agenda.specs.Following.{AreNodesOf}
use Rattle.mkb_agenda.proofs.following.nodes_of.Given as goal

-- the nodes of the first pairs
abbrev pub invariant-loop-i : goal.invariant-loop-i
invariant-loop-i l = record {
  there : All (λ (n : NodeId). IsThere l.state n.0) l.nodes.items;
  nodes : AreNodesOf l.state (take l.i l.pairs) l.nodes.items;
}

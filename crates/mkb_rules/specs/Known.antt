-- Nodes on boards.
use Rattle.kb_node.specs.declared.node.NodeId.{NodeId}
use Rattle.mkb_model.specs.Plain.{Plain}

-- a node on a board
pub record NodeOn : Type 0 where
  pub board : Plain
  pub node : NodeId

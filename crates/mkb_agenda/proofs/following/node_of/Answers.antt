use Rattle.mkb_agenda.proofs.Found.{the_node_found}
use Rattle.mkb_agenda.proofs.following.node_of.Goals as goal

pub returns-clause-found : goal.returns-clause-found
returns-clause-found c = the_node_found c.args.state.now c.nodes-nodes.result.now c.args.pair.now c.nodes-nodes.ensures c.len.ensures.distinct c.find.result c.find.ensures

use Rattle.mkb_rules.proofs.Leading.{distinct_there}
use Rattle.mkb_rules.proofs.nodes.Nodes.are_distinct.Goals as goal

pub returns : goal.returns
returns c = distinct_there c.table.result.now c.args.self.now.now c.table.ensures c.len.ensures.distinct

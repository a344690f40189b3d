use Rattle.std.proofs.Common.{ap, length, rules, arith}
use Rattle.kb_node.proofs.Kept.{count, node_read}
use Rattle.kb_node.proofs.table.NodeTable.origin.Goals as goal

pub returns : goal.returns
returns g c =
    rw (← c.self.view_is, node_read c.self.inside.bank c.self.inside.sides.keys c.self.inside.starts.items c.self.inside.entries.items c.self.invariant c.args.n.0 c.index.result.now (omega (arith, c.requires, ap length c.self.view_is, count c.self.inside.bank c.self.inside.sides.keys c.self.inside.starts.items c.self.inside.entries.items c.self.invariant)) c.index.ensures)
    (search rules)

use Rattle.std.proofs.Common.{ap, length, rules, arith}
use Rattle.kb_node.proofs.Kept.{count, node_read}
use Rattle.kb_node.proofs.table.NodeTable.is_dead.Goals as goal

pub returns-then-is_empty-2 : goal.returns-then-is_empty-2
returns-then-is_empty-2 g c =
    rw (← c.self.view_is, node_read c.self.inside.bank c.self.inside.sides.keys c.self.inside.starts.items c.self.inside.entries.items c.self.invariant c.args.n.0 c.index-entry.result.now (omega (arith, c.requires, ap length c.self.view_is, count c.self.inside.bank c.self.inside.sides.keys c.self.inside.starts.items c.self.inside.entries.items c.self.invariant)) c.index-entry.ensures)
    (search rules)

pub returns-else-is_empty-2 : goal.returns-else-is_empty-2
returns-else-is_empty-2 g c =
    rw (← c.self.view_is, node_read c.self.inside.bank c.self.inside.sides.keys c.self.inside.starts.items c.self.inside.entries.items c.self.invariant c.args.n.0 c.index-entry.result.now (omega (arith, c.requires, ap length c.self.view_is, count c.self.inside.bank c.self.inside.sides.keys c.self.inside.starts.items c.self.inside.entries.items c.self.invariant)) c.index-entry.ensures)
    (search rules)

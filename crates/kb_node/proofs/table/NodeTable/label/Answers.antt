use Rattle.std.proofs.Common.{length, Some, ap, sym, get_or, arith}
use Rattle.kb_node.specs.Stored.{pair_in}
use Rattle.kb_node.proofs.Finding.{no_sides}
use Rattle.kb_node.proofs.Kept.{count, node_read}
use Rattle.kb_node.proofs.table.NodeTable.label.Goals as goal

pub returns : goal.returns
returns g c =
    rw (← c.self.view_is, node_read c.self.inside.bank c.self.inside.sides.keys c.self.inside.starts.items c.self.inside.entries.items c.self.invariant c.args.n.0 c.index.result.now (omega (arith, c.requires, ap length c.self.view_is, count c.self.inside.bank c.self.inside.sides.keys c.self.inside.starts.items c.self.inside.entries.items c.self.invariant)) c.index.ensures)
    (ap Some (sym (c.label.ensures (pair_in c.self.inside.bank (get_or c.self.inside.sides.keys c.args.n.0 no_sides)))))

use Rattle.std.proofs.Common.{◌<◌, length, arith}
use Rattle.kb_node.specs.Stored.{nodes_in}
use Rattle.kb_node.proofs.Finding.{cut_low}
use Rattle.kb_node.proofs.Kept.{count, first-nodes, first-stored}
use Rattle.kb_node.proofs.table.NodeTable.truncate.Goals as goal

pub cut-requires : goal.cut-requires
cut-requires g c =
    cut_low c.self.inside.bank c.self.inside.sides.keys c.self.inside.starts.items (nodes_in c.self.inside.bank c.self.inside.sides.keys c.self.inside.entries.items) c.self.invariant.banked c.args.len c.index.result.now
    (omega (arith, c.if-len.true, c.len.ensures, count c.self.inside.bank c.self.inside.sides.keys c.self.inside.starts.items c.self.inside.entries.items c.self.invariant)) c.index.ensures

pub invariant_of-self : goal.invariant_of-self
invariant_of-self g c =
    rw (c.cut.ensures, c.truncate.ensures.items, c.truncate-then-len.ensures.keys, c.truncate-then-len-2.ensures.items)
    (first-stored c.self.inside.bank c.self.inside.sides.keys c.self.inside.starts.items c.self.inside.entries.items c.self.invariant c.args.len c.index.result.now (omega (arith, c.if-len.true, c.len.ensures)) c.index.ensures)

pub returns-then-len : goal.returns-then-len
returns-then-len g c =
    rw (c.cut.ensures, c.truncate-then-len.ensures.keys, c.truncate-then-len-2.ensures.items, ← c.self.view_is)
    (first-nodes c.self.inside.bank c.self.inside.sides.keys c.self.inside.starts.items c.self.inside.entries.items c.self.invariant c.args.len c.index.result.now (omega (arith, c.if-len.true, c.len.ensures)) c.index.ensures)

use Rattle.std.proofs.Common.{length, Some, ap, sym, get_or, arith}
use Rattle.std.specs.Prelude.{slice_set}
use Rattle.kb_node.specs.Stored.{pair_in}
use Rattle.kb_node.proofs.Finding.{no_sides}
use Rattle.kb_node.proofs.Kept.{count, node_read, relabelled, relabelled-stored}
use Rattle.kb_node.proofs.table.NodeTable.set_label.Goals as goal

pub invariant_of-self : goal.invariant_of-self
invariant_of-self g c =
    relabelled-stored c.self.inside.bank c.self.inside.sides.keys c.self.inside.starts.items c.self.inside.entries.items c.self.invariant c.args.n.0 c.index_mut-entry.result.now c.set_label.new.self (omega (arith, c.requires, ap length c.self.view_is, count c.self.inside.bank c.self.inside.sides.keys c.self.inside.starts.items c.self.inside.entries.items c.self.invariant)) c.index_mut-entry.ensures.value c.args.kind c.args.label c.set_label.ensures.new

pub returns-clause-old : goal.returns-clause-old
returns-clause-old g c =
    rw (← c.self.view_is, node_read c.self.inside.bank c.self.inside.sides.keys c.self.inside.starts.items c.self.inside.entries.items c.self.invariant c.args.n.0 c.index_mut-entry.result.now (omega (arith, c.requires, ap length c.self.view_is, count c.self.inside.bank c.self.inside.sides.keys c.self.inside.starts.items c.self.inside.entries.items c.self.invariant)) c.index_mut-entry.ensures.value)
    (ap Some (sym (c.set_label.ensures.old (pair_in c.self.inside.bank (get_or c.self.inside.sides.keys c.args.n.0 no_sides)))))

pub returns-clause-new : goal.returns-clause-new
returns-clause-new g c =
    rw (← c.self.view_is, node_read c.self.inside.bank c.self.inside.sides.keys c.self.inside.starts.items c.self.inside.entries.items c.self.invariant c.args.n.0 c.index_mut-entry.result.now (omega (arith, c.requires, ap length c.self.view_is, count c.self.inside.bank c.self.inside.sides.keys c.self.inside.starts.items c.self.inside.entries.items c.self.invariant)) c.index_mut-entry.ensures.value)
    (relabelled c.self.inside.bank c.self.inside.sides.keys c.self.inside.starts.items c.self.inside.entries.items c.self.invariant c.args.n.0 c.index_mut-entry.result.now c.set_label.new.self (omega (arith, c.requires, ap length c.self.view_is, count c.self.inside.bank c.self.inside.sides.keys c.self.inside.starts.items c.self.inside.entries.items c.self.invariant)) c.index_mut-entry.ensures.value c.args.kind c.args.label c.set_label.ensures.new)

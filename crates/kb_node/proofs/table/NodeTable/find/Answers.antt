use Rattle.kb_node.specs.Stored.{nodes_in}
use Rattle.kb_node.proofs.Finding.{lacks_side, lacks_none, found}
use Rattle.kb_node.proofs.table.NodeTable.find.Goals as goal

pub returns-in_err-sides : goal.returns-in_err-sides
returns-in_err-sides g c =
    rw (c.from_residual.ensures, ← c.self.view_is) (lacks_side c.self.inside.bank c.self.inside.sides.keys c.self.inside.starts.items (nodes_in c.self.inside.bank c.self.inside.sides.keys c.self.inside.entries.items) c.self.invariant.banked c.args.pair.now c.in_err-sides.ensures)

pub returns-in_err-number : goal.returns-in_err-number
returns-in_err-number g c =
    rw (c.from_residual-in_err-number.ensures, ← c.self.view_is) (lacks_none c.self.inside.bank c.self.inside.sides.keys c.self.inside.starts.items (nodes_in c.self.inside.bank c.self.inside.sides.keys c.self.inside.entries.items) c.self.invariant.banked c.args.pair.now c.in_ok-sides.sides c.in_ok-sides.ensures c.in_err-number.ensures.index)

pub returns : goal.returns
returns g c =
    rw (← c.self.view_is) (found c.self.inside.bank c.self.inside.sides.keys c.self.inside.starts.items (nodes_in c.self.inside.bank c.self.inside.sides.keys c.self.inside.entries.items) c.self.invariant.banked c.args.pair.now c.in_ok-sides.sides c.in_ok-sides.ensures c.in_ok-number.number c.in_ok-number.ensures.index)

use Rattle.kb_term.specs.View.{tree_of}
use Rattle.kb_node.specs.Stored.{nodes_in}
use Rattle.kb_node.proofs.Finding.{cells_there}
use Rattle.kb_node.proofs.Kept.{made-canonical, made-has}
use Rattle.kb_node.proofs.table.NodeTable.pair.Goals as goal

pub view-requires : goal.view-requires
view-requires g c =
    rw c.as_slice.ensures.keys
    (cells_there c.self.inside.bank c.self.inside.sides.keys c.self.inside.starts.items (nodes_in c.self.inside.bank c.self.inside.sides.keys c.self.inside.entries.items) c.self.invariant.banked c.args.n.0 (rw c.self.view_is c.requires)).0

pub view-requires-2 : goal.view-requires-2
view-requires-2 g c =
    rw c.as_slice.ensures.keys
    (cells_there c.self.inside.bank c.self.inside.sides.keys c.self.inside.starts.items (nodes_in c.self.inside.bank c.self.inside.sides.keys c.self.inside.entries.items) c.self.invariant.banked c.args.n.0 (rw c.self.view_is c.requires)).1

pub from_sides-requires : goal.from_sides-requires
from_sides-requires g c =
    made-canonical c.self.inside.bank c.self.inside.sides.keys c.self.inside.starts.items c.self.inside.entries.items c.self.invariant c.args.n.0 (rw c.self.view_is c.requires)
    (tree_of c.in_ok-first.first) (tree_of c.in_ok-second.second) (rw c.as_slice.ensures.keys at c.in_ok-first.ensures) (rw c.as_slice.ensures.keys at c.in_ok-second.ensures)

pub returns : goal.returns
returns g c =
    rw (← c.self.view_is, c.from_sides.ensures)
    (made-has c.self.inside.bank c.self.inside.sides.keys c.self.inside.starts.items c.self.inside.entries.items c.self.invariant c.args.n.0 (rw c.self.view_is c.requires)
    (tree_of c.in_ok-first.first) (tree_of c.in_ok-second.second) (rw c.as_slice.ensures.keys at c.in_ok-first.ensures) (rw c.as_slice.ensures.keys at c.in_ok-second.ensures))

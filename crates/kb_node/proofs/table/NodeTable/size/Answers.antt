use Rattle.std.proofs.Common.{arith}
use Rattle.kb_node.specs.Stored.{nodes_in}
use Rattle.kb_node.proofs.Finding.{cells_there, sizes_most, sizes_are}
use Rattle.kb_node.proofs.table.NodeTable.size.Goals as goal

pub size-requires : goal.size-requires
size-requires g c =
    rw c.as_slice.ensures.keys
    (cells_there c.self.inside.bank c.self.inside.sides.keys c.self.inside.starts.items (nodes_in c.self.inside.bank c.self.inside.sides.keys c.self.inside.entries.items) c.self.invariant.banked c.args.n.0 (rw c.self.view_is c.requires)).0

pub size-requires-2 : goal.size-requires-2
size-requires-2 g c =
    rw c.as_slice.ensures.keys
    (cells_there c.self.inside.bank c.self.inside.sides.keys c.self.inside.starts.items (nodes_in c.self.inside.bank c.self.inside.sides.keys c.self.inside.entries.items) c.self.invariant.banked c.args.n.0 (rw c.self.view_is c.requires)).1

pub overflow_add-result : goal.overflow_add-result
overflow_add-result g c =
    let most = sizes_most c.self.inside.bank c.self.inside.sides.keys c.self.inside.starts.items (nodes_in c.self.inside.bank c.self.inside.sides.keys c.self.inside.entries.items) c.self.invariant.banked c.args.n.0 c.size.result c.size-2.result (rw c.self.view_is c.requires)
    (rw c.as_slice.ensures.keys at c.size.ensures) (rw c.as_slice.ensures.keys at c.size-2.ensures) in
    omega (arith, most)

pub returns-clause-size : goal.returns-clause-size
returns-clause-size g c =
    rw (← c.self.view_is)
    (sizes_are c.self.inside.bank c.self.inside.sides.keys c.self.inside.starts.items (nodes_in c.self.inside.bank c.self.inside.sides.keys c.self.inside.entries.items) c.self.invariant.banked c.args.n.0 c.size.result c.size-2.result (rw c.self.view_is c.requires)
    (rw c.as_slice.ensures.keys at c.size.ensures) (rw c.as_slice.ensures.keys at c.size-2.ensures))

pub returns-clause-most : goal.returns-clause-most
returns-clause-most g c =
    sizes_most c.self.inside.bank c.self.inside.sides.keys c.self.inside.starts.items (nodes_in c.self.inside.bank c.self.inside.sides.keys c.self.inside.entries.items) c.self.invariant.banked c.args.n.0 c.size.result c.size-2.result (rw c.self.view_is c.requires)
    (rw c.as_slice.ensures.keys at c.size.ensures) (rw c.as_slice.ensures.keys at c.size-2.ensures)

use Rattle.std.proofs.Common.{ap, sym, ◌∙◌}
use Rattle.std.proofs.lemmas.Bool.{ne_eqb}
use Rattle.kb_term.specs.Pair.{Pair}
use Rattle.kb_node.specs.Stored.{nodes_in}
use Rattle.kb_node.proofs.Finding.{cells_there}
use Rattle.kb_node.proofs.Kept.{node_pair}
use Rattle.kb_node.proofs.table.NodeTable.other_side.Goals as goal

pub view-requires : goal.view-requires
view-requires g c =
    rw c.as_slice.ensures.keys
    (cells_there c.self.inside.bank c.self.inside.sides.keys c.self.inside.starts.items (nodes_in c.self.inside.bank c.self.inside.sides.keys c.self.inside.entries.items) c.self.invariant.banked c.args.n.0 (rw c.self.view_is c.requires)).1

pub view-requires-2 : goal.view-requires-2
view-requires-2 g c =
    rw c.as_slice.ensures.keys
    (cells_there c.self.inside.bank c.self.inside.sides.keys c.self.inside.starts.items (nodes_in c.self.inside.bank c.self.inside.sides.keys c.self.inside.entries.items) c.self.invariant.banked c.args.n.0 (rw c.self.view_is c.requires)).0

pub returns-then-number-eq0 : goal.returns-then-number-eq0
returns-then-number-eq0 g c = λ q has.
    let same = node_pair c.self.inside.bank c.self.inside.sides.keys c.self.inside.starts.items c.self.inside.entries.items c.self.invariant c.args.n.0 (rw c.self.view_is c.requires) q (rw c.self.view_is has) in
    rw c.if-number-eq0.true ((rw c.as_slice.ensures.keys at c.in_ok-after.ensures) ∙ sym (ap (λ (e : Pair). e.second) same))

pub returns : goal.returns
returns g c = λ q has.
    let same = node_pair c.self.inside.bank c.self.inside.sides.keys c.self.inside.starts.items c.self.inside.entries.items c.self.invariant c.args.n.0 (rw c.self.view_is c.requires) q (rw c.self.view_is has) in
    rw (ne_eqb c.args.number 0 c.if-number-eq0.false) ((rw c.as_slice.ensures.keys at c.in_ok-before.ensures) ∙ sym (ap (λ (e : Pair). e.first) same))

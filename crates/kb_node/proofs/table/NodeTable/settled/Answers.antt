use Rattle.std.proofs.Common.{◌≡◌, Ok, Some}
use Rattle.kb_node.specs.Stored.{nodes_in}
use Rattle.kb_node.proofs.Finding.{distinct_nodes}
use Rattle.kb_node.proofs.Adding.{has-lacks, same_number}
use Rattle.kb_node.proofs.table.NodeTable.settled.Goals as goal

pub returns-in-Some-clause-present : goal.returns-in-Some-clause-present
returns-in-Some-clause-present g c = λ n h.
    let distinct = rw c.self.view_is at (distinct_nodes c.self.inside.bank c.self.inside.sides.keys c.self.inside.starts.items (nodes_in c.self.inside.bank c.self.inside.sides.keys c.self.inside.entries.items) c.self.invariant.banked) in
    let same : c.in-Some.n.0 ≡ n = same_number c.args.self.now c.args.pair.now c.in-Some.n.0 n distinct c.in-Some.ensures h in
    (λ i. Some (Ok (record { 0 = same i })))

pub returns-in-Some-clause-full : goal.returns-in-Some-clause-full
returns-in-Some-clause-full g c = (λ e. absurd (cc), λ h. absurd (has-lacks c.args.self.now c.args.pair.now c.in-Some.n.0 c.in-Some.ensures h.0))

pub returns-in-Some-clause-limit : goal.returns-in-Some-clause-limit
returns-in-Some-clause-limit g c = λ h k l. absurd (has-lacks c.args.self.now c.args.pair.now c.in-Some.n.0 c.in-Some.ensures h)

pub returns-in-None-clause-present : goal.returns-in-None-clause-present
returns-in-None-clause-present g c = λ n h. absurd (has-lacks c.args.self.now c.args.pair.now n h (c.in-None.ensures))

pub returns-in-None-2-clause-present : goal.returns-in-None-2-clause-present
returns-in-None-2-clause-present g c = λ n h. absurd (has-lacks c.args.self.now c.args.pair.now n h (c.in-None-2.ensures))

pub returns-in-None-3-clause-present : goal.returns-in-None-3-clause-present
returns-in-None-3-clause-present g c = λ n h. absurd (has-lacks c.args.self.now c.args.pair.now n h (c.in-None-3.ensures))

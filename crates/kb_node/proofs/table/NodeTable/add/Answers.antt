use Rattle.std.proofs.Common.{◌<◌, ◌∙◌, ◌++◌, ◌∷◌, [], length, ap, arith}
use Rattle.indexmap.specs.IndexSet.{insert_key}
use Rattle.kb_node.specs.Banked.{sides_eq}
use Rattle.kb_node.specs.Labelled.{pairs_of}
use Rattle.kb_node.specs.Stored.{node_of, pair_in, nodes_in}
use Rattle.kb_node.proofs.Banking.{room}
use Rattle.kb_node.proofs.Pairs.{pairs-length}
use Rattle.kb_node.proofs.Kept.{count, more-nodes, more-pair, more-stored}
use Rattle.kb_node.proofs.Adding.{on_err}
use Rattle.kb_node.proofs.table.NodeTable.add.Goals as goal

pub intern-requires : goal.intern-requires
intern-requires g c =
    let few : length c.self.inside.entries.items < 4096 = omega (arith, c.requires.room, ap length c.self.view_is, count c.self.inside.bank c.self.inside.sides.keys c.self.inside.starts.items c.self.inside.entries.items c.self.invariant) in
    room c.self.inside.bank c.self.inside.sides.keys c.self.inside.starts.items (pairs_of (nodes_in c.self.inside.bank c.self.inside.sides.keys c.self.inside.entries.items)) c.self.invariant.banked (omega (arith, few, pairs-length (nodes_in c.self.inside.bank c.self.inside.sides.keys c.self.inside.entries.items), count c.self.inside.bank c.self.inside.sides.keys c.self.inside.starts.items c.self.inside.entries.items c.self.invariant)) c.args.pair.now c.requires.within

pub returns-in_err-sides-clause-err : goal.returns-in_err-sides-clause-err
returns-in_err-sides-clause-err g c = on_err c.from_residual-in_err-sides.result (rw (c.in_err-sides.ensures.err, c.in_ok-reserve-2.ensures.keys, c.in_ok-reserve.ensures.items) c.self.view_is)

pub invariant_of-self-2 : goal.invariant_of-self-2
invariant_of-self-2 g c =
    let few : length c.self.inside.entries.items < 4096 = omega (arith, c.requires.room, ap length c.self.view_is, count c.self.inside.bank c.self.inside.sides.keys c.self.inside.starts.items c.self.inside.entries.items c.self.invariant) in
    let starts = (rw c.unwrap.ensures at c.push.ensures.items) ∙ ap (λ l. l ++ c.used-start.result ∷ []) c.in_ok-reserve-3.ensures.items in
    let keys = (rw c.unwrap-2.ensures at c.insert.ensures.keys) ∙ ap (λ l. insert_key sides_eq l c.in_ok-sides.sides) c.in_ok-reserve-2.ensures.keys in
    let entries = (rw c.unwrap-3.ensures at c.push-2.ensures.items) ∙ ap (λ l. l ++ c.unlabelled-entry.result ∷ []) c.in_ok-reserve.ensures.items in
    rw (starts, keys, entries)
    (more-stored c.self.inside.bank c.self.inside.sides.keys c.self.inside.starts.items c.self.inside.entries.items c.self.invariant c.args.pair.now (rw c.self.view_is c.requires.new) c.in_ok-sides.sides c.intern.new.bank c.in_ok-sides.ensures.ok c.in_ok-sides.ensures.sides c.unlabelled-entry.result c.used-start.result few c.requires.within c.used-start.ensures.count c.requires.canonical)

pub returns-clause-added : goal.returns-clause-added
returns-clause-added g c =
    let keys = (rw c.unwrap-2.ensures at c.insert.ensures.keys) ∙ ap (λ l. insert_key sides_eq l c.in_ok-sides.sides) c.in_ok-reserve-2.ensures.keys in
    let entries = (rw c.unwrap-3.ensures at c.push-2.ensures.items) ∙ ap (λ l. l ++ c.unlabelled-entry.result ∷ []) c.in_ok-reserve.ensures.items in (
      omega (arith, c.len-number.ensures, ap length c.in_ok-reserve.ensures.items, ap length c.self.view_is, count c.self.inside.bank c.self.inside.sides.keys c.self.inside.starts.items c.self.inside.entries.items c.self.invariant),
      record {
        node = node_of (pair_in c.intern.new.bank c.in_ok-sides.sides) c.unlabelled-entry.result;
        appended = rw (keys, entries, ← c.self.view_is) (more-nodes c.self.inside.bank c.self.inside.sides.keys c.self.inside.starts.items c.self.inside.entries.items c.self.invariant c.args.pair.now (rw c.self.view_is c.requires.new) c.in_ok-sides.sides c.intern.new.bank c.in_ok-sides.ensures.ok c.in_ok-sides.ensures.sides c.unlabelled-entry.result);
        pair_is = more-pair c.self.inside.bank c.self.inside.sides.keys c.self.inside.starts.items c.self.inside.entries.items c.self.invariant c.args.pair.now (rw c.self.view_is c.requires.new) c.in_ok-sides.sides c.intern.new.bank c.in_ok-sides.ensures.ok c.in_ok-sides.ensures.sides c.unlabelled-entry.result;
        origin_is = c.unlabelled-entry.ensures.origin;
        unlabelled = c.unlabelled-entry.ensures.unlabelled (pair_in c.intern.new.bank c.in_ok-sides.sides);
      },
    )

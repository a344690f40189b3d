use Rattle.std.proofs.Common.{◌≡◌, ◌≤◌, sym, ◌∙◌, subst, insert, length, arith}
use Rattle.kb_label.specs.Names.{add, IsInNameOrder}
use Rattle.kb_label.proofs.Ordered.{ordered-add}
use Rattle.mkb_pick.specs.Queues.{IsSound}
use Rattle.mkb_pick.proofs.Seats.{stands_after_insert, all_after_insert}
use Rattle.mkb_pick.proofs.queue.Queue.put_in.Goals as goal

pub returns-clause-entries : goal.returns-clause-entries
returns-clause-entries c =
    let q = c.args.self.now in
    let k = c.free_place-place.result in
    let within : k ≤ length q.names.items = subst (λ l. k ≤ length l) c.as_slice.ensures.value c.free_place-place.ensures.within in
    stands_after_insert q.names.items c.insert_at.new.items.items q.entries.items c.insert_at-2.new.items.items c.args.name c.args.entry k c.requires.queue.beside within c.insert_at.ensures.items c.insert_at-2.ensures.items

pub returns-clause-queue : goal.returns-clause-queue
returns-clause-queue c =
    let q = c.args.self.now in
    let k = c.free_place-place.result in
    let is = c.requires.queue in
    let added : insert q.names.items k c.args.name ≡ add c.args.name q.names.items = subst (λ l. insert l k c.args.name ≡ add c.args.name l) c.as_slice.ensures.value c.free_place-place.ensures.added in
    record {
      in_order = subst IsInNameOrder (sym (c.insert_at.ensures.items ∙ added)) (ordered-add c.args.name q.names.items is.in_order);
      beside = omega (arith, is.beside, q.names.ok.0, q.entries.ok.0, c.insert_at.new.items.ok.0, c.insert_at-2.new.items.ok.0, c.insert_at.ensures.len, c.insert_at-2.ensures.len);
      sound = all_after_insert IsSound q.entries.items c.insert_at-2.new.items.items k c.args.entry c.insert_at-2.ensures.items c.requires.sound is.sound;
      room = omega (arith, is.room, c.requires.room, c.insert_at.ensures.len, c.insert_at.ensures.capacity);
      room_beside = omega (arith, is.room_beside, c.requires.room, c.insert_at-2.ensures.len, c.insert_at-2.ensures.capacity);
    }

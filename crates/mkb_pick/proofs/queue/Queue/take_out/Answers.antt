use Rattle.std.proofs.Common.{ap, ◌∙◌, remove, arith}
use Rattle.mkb_pick.specs.Queues.{IsSound}
use Rattle.mkb_pick.proofs.Seats.{order_after_remove, stands_after_remove, all_after_remove}
use Rattle.mkb_pick.proofs.queue.Queue.take_out.Goals as goal

pub returns-clause-entries : goal.returns-clause-entries
returns-clause-entries c =
    let q = c.args.self.now in
    let k = c.in-Some.place in
    stands_after_remove q.names.items c.remove.new.self.items q.entries.items c.remove-2.new.self.items c.args.name.now k c.requires.queue.beside c.requires.queue.in_order c.in-Some.ensures.place (c.remove.ensures.items ∙ ap (λ v. remove v.items k) c.seek.ensures.names)
    (c.remove-2.ensures.items ∙ ap (λ v. remove v.items k) c.seek.ensures.entries)

pub returns-clause-queue : goal.returns-clause-queue
returns-clause-queue c =
    let q = c.args.self.now in
    let k = c.in-Some.place in
    let is = c.requires.queue in
    let at = c.in-Some.ensures.place in
    let names = c.remove.ensures.items ∙ ap (λ v. remove v.items k) c.seek.ensures.names in
    let entries = c.remove-2.ensures.items ∙ ap (λ v. remove v.items k) c.seek.ensures.entries in
    record {
      in_order = order_after_remove q.names.items q.entries.items c.args.name.now k is.beside is.in_order at.0 at.1 c.remove.new.self.items names;
      beside = omega (arith, is.beside, q.names.ok.0, q.entries.ok.0, c.remove.new.self.ok.0, c.remove-2.new.self.ok.0, c.remove.ensures.len, c.remove-2.ensures.len, ap (λ v. v.len) c.seek.ensures.names, ap (λ v. v.len) c.seek.ensures.entries);
      sound = all_after_remove IsSound q.entries.items c.remove-2.new.self.items k entries is.sound;
      room = omega (arith, is.room, c.remove.ensures.len, c.remove.ensures.capacity, ap (λ v. v.len) c.seek.ensures.names, ap (λ v. v.cap) c.seek.ensures.names, c.seek.ensures.spare);
      room_beside = omega (arith, is.room_beside, c.remove-2.ensures.len, c.remove-2.ensures.capacity, ap (λ v. v.len) c.seek.ensures.entries, ap (λ v. v.cap) c.seek.ensures.entries, c.seek.ensures.spare);
    }

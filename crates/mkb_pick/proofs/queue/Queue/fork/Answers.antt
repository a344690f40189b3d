use Rattle.std.proofs.Common.{◌≡◌, ◌∙◌, ◌↔◌, ◌⊎◌, sym, subst, false, true}
use Rattle.kb_label.specs.Names.{Name, child}
use Rattle.mkb_pick.specs.Tasks.{Has}
use Rattle.mkb_pick.specs.Queues.{IsQueue, IsAt, Shows}
use Rattle.mkb_pick.specs.declared.queue.Entry.{Entry}
use Rattle.mkb_pick.specs.declared.queue.Queue.{Queue}
use Rattle.mkb_pick.proofs.Replaced.{IsParted, with_parted, first_free, second_free}
use Rattle.mkb_pick.proofs.queue.Queue.fork.Goals as goal

pub put_in-requires-clause-free : goal.put_in-requires-clause-free
put_in-requires-clause-free c = first_free c.args.self.now c.take_out-entry.new.self c.args.name.now c.child.result c.take_out-entry.ensures.queue c.requires.free c.take_out-entry.ensures.entries c.child.ensures

pub put_in-requires-2-clause-free : goal.put_in-requires-2-clause-free
put_in-requires-2-clause-free c =
    second_free c.args.self.now c.take_out-entry.new.self c.put_in.new.self c.args.name.now c.child.result c.child-2.result c.take_out-entry.result c.put_in.ensures.queue c.requires.free c.take_out-entry.ensures.entries c.child.ensures c.child-2.ensures c.put_in.ensures.entries

-- the children stand for their parent
parted : (old mid most new : Queue) (n m0 m1 : Name) (d f : Entry) → IsQueue old → IsAt old n d → ((m : Name) (x : Entry) → IsAt mid m x ↔ (IsAt old m x × ¬ (m ≡ n))) → ((m : Name) (x : Entry) → IsAt most m x ↔ (((m ≡ m0) × (x ≡ d)) ⊎ IsAt mid m x)) → ((m : Name) (x : Entry) → IsAt new m x ↔ (((m ≡ m1) × (x ≡ f)) ⊎ IsAt most m x)) → m0 ≡ child n false → m1 ≡ child n true → IsParted old mid most new n (child n false) (child n true) d f
parted old mid most new n m0 m1 d f is there out first second zero one =
    record {
      queue = is;
      there = there;
      out = out;
      first = subst (λ m0. (m : Name) (x : Entry) → IsAt most m x ↔ (((m ≡ m0) × (x ≡ d)) ⊎ IsAt mid m x)) zero first;
      second = subst (λ m1. (m : Name) (x : Entry) → IsAt new m x ↔ (((m ≡ m1) × (x ≡ f)) ⊎ IsAt most m x)) one second;
    }

pub returns-clause-seats : goal.returns-clause-seats
returns-clause-seats c n cost rests =
    let p = c.args.name.now in
    let d : Entry = c.take_out-entry.result in
    let f : Entry = c.twin_of-twin.result in
    let is = parted c.args.self.now c.take_out-entry.new.self c.put_in.new.self c.put_in-2.new.self p c.child.result c.child-2.result d f c.requires.queue c.take_out-entry.ensures.entry c.take_out-entry.ensures.entries c.put_in.ensures.entries c.put_in-2.ensures.entries c.child.ensures c.child-2.ensures in
    with_parted c.args.self.now c.take_out-entry.new.self c.put_in.new.self c.put_in-2.new.self p (child p false) (child p true) d f is (Shows cost rests)
    (λ h. (sym c.twin_of-twin.ensures.cost ∙ h.0, sym c.twin_of-twin.ensures.resting ∙ h.1), λ h. (c.twin_of-twin.ensures.cost ∙ h.0, c.twin_of-twin.ensures.resting ∙ h.1)) n

pub returns-clause-tasks : goal.returns-clause-tasks
returns-clause-tasks c n t =
    let p = c.args.name.now in
    let d : Entry = c.take_out-entry.result in
    let f : Entry = c.twin_of-twin.result in
    let is = parted c.args.self.now c.take_out-entry.new.self c.put_in.new.self c.put_in-2.new.self p c.child.result c.child-2.result d f c.requires.queue c.take_out-entry.ensures.entry c.take_out-entry.ensures.entries c.put_in.ensures.entries c.put_in-2.ensures.entries c.child.ensures c.child-2.ensures in
    with_parted c.args.self.now c.take_out-entry.new.self c.put_in.new.self c.put_in-2.new.self p (child p false) (child p true) d f is (λ x. Has x.tasks t) (c.twin_of-twin.ensures.tasks t) n

use Rattle.std.proofs.Common.{◌≡◌, true, ap, ap₂, sym, ◌∙◌, [], ◌∷◌, length, arith}
use Rattle.std.specs.Prelude.{remove}
use Rattle.kb_label.specs.Names.{add, has, minus, IsInNameOrder}
use Rattle.kb_label.proofs.Ordered.{ordered-add, ordered-left}
use Rattle.kb_label.proofs.Forked.{relabelled, leaves-forked, forked}
use Rattle.kb_label.proofs.list_labels.NameLogLiving.fork.Goals as goal

pub place_of-requires : goal.place_of-requires
place_of-requires c = rw (c.as_slice.ensures.value, c.in_ok-reserve.ensures.items) (leaves-forked c.self.inside.names.items c.self.invariant.0).in_order

pub child-requires : goal.child-requires
child-requires c =
    let short = (leaves-forked c.self.inside.names.items c.self.invariant.0).short c.args.process.now (rw c.self.view_is c.requires.living) in
    omega (arith, short, ap length c.self.view_is)

pub put-requires-clause-in_order : goal.put-requires-clause-in_order
put-requires-clause-in_order c =
    let in_order : IsInNameOrder c.as_slice.result.now = rw (c.as_slice.ensures.value, c.in_ok-reserve.ensures.items) (leaves-forked c.self.inside.names.items c.self.invariant.0).in_order in
    ordered-left c.args.process.now c.as_slice.result.now c.in-Ok.place c.remove.new.self.items in_order (c.remove.ensures.items ∙ ap (λ l. remove l c.in-Ok.place) (sym c.as_slice.ensures.value)) c.in-Ok.ensures.left

pub put-requires-in-Ok-clause-in_order : goal.put-requires-in-Ok-clause-in_order
put-requires-in-Ok-clause-in_order c =
    let in_order : IsInNameOrder c.as_slice.result.now = rw (c.as_slice.ensures.value, c.in_ok-reserve.ensures.items) (leaves-forked c.self.inside.names.items c.self.invariant.0).in_order in
    rw c.put.ensures.items (ordered-add _ _ (ordered-left c.args.process.now c.as_slice.result.now c.in-Ok.place c.remove.new.self.items in_order (c.remove.ensures.items ∙ ap (λ l. remove l c.in-Ok.place) (sym c.as_slice.ensures.value)) c.in-Ok.ensures.left))

pub invariant_of-self-in-Ok : goal.invariant_of-self-in-Ok
invariant_of-self-in-Ok c =
    let p = c.args.process.now in
    let l = c.self.inside.names.items in
    let living : has l p ≡ true = rw c.self.view_is c.requires.living in
    let left = c.remove.ensures.items ∙ ap (λ m. remove m c.in-Ok.place) (sym c.as_slice.ensures.value) ∙ c.in-Ok.ensures.left ∙ ap (λ m. minus m (p ∷ [])) (c.as_slice.ensures.value ∙ c.in_ok-reserve.ensures.items) in
    forked p l c.put-in-Ok.new.names.items c.self.invariant.0 living (rw c.self.view_is c.requires.room)
    (c.put-in-Ok.ensures.items ∙ ap₂ add c.child-in-Ok.ensures (c.put.ensures.items ∙ ap₂ add c.child.ensures left) ∙ sym (relabelled p l living))

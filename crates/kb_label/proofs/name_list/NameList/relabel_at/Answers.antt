use Rattle.std.proofs.Common.{ap, ◌∙◌}
use Rattle.std.specs.Prelude.{remove}
use Rattle.kb_label.proofs.Ordered.{ordered-add, ordered-left}
use Rattle.kb_label.proofs.name_list.NameList.relabel_at.Goals as goal

pub put-requires-clause-in_order : goal.put-requires-clause-in_order
put-requires-clause-in_order c =
    ordered-left c.args.process.now c.args.self.now c.args.place c.remove.new.self.items (rw (← c.self.view_is) c.self.invariant) (c.remove.ensures.items ∙ ap (λ l. remove l c.args.place) (c.in_ok-reserve.ensures.items ∙ c.self.view_is)) c.requires.named

pub put-requires-2-clause-in_order : goal.put-requires-2-clause-in_order
put-requires-2-clause-in_order c =
    let left = ordered-left c.args.process.now c.args.self.now c.args.place c.remove.new.self.items (rw (← c.self.view_is) c.self.invariant) (c.remove.ensures.items ∙ ap (λ l. remove l c.args.place) (c.in_ok-reserve.ensures.items ∙ c.self.view_is)) c.requires.named in
    rw c.put.ensures.items (ordered-add _ c.remove.new.self.items left)

pub invariant_of-self-2 : goal.invariant_of-self-2
invariant_of-self-2 c =
    let left = ordered-left c.args.process.now c.args.self.now c.args.place c.remove.new.self.items (rw (← c.self.view_is) c.self.invariant) (c.remove.ensures.items ∙ ap (λ l. remove l c.args.place) (c.in_ok-reserve.ensures.items ∙ c.self.view_is)) c.requires.named in
    rw (c.put-2.ensures.items, c.put.ensures.items) (ordered-add _ _ (ordered-add _ c.remove.new.self.items left))

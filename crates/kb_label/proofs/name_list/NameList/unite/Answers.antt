use Rattle.kb_label.proofs.Ordered.{ordered-add, ordered-without}
use Rattle.kb_label.proofs.name_list.NameList.unite.Goals as goal

pub take_out-requires-then-has_kept-2 : goal.take_out-requires-then-has_kept-2
take_out-requires-then-has_kept-2 c = record { in_order = rw c.take_out.ensures.items (ordered-without _ c.self.inside.names.items c.self.invariant) }

pub put-requires-clause-in_order : goal.put-requires-clause-in_order
put-requires-clause-in_order c = rw (c.take_out-then-has_kept-2.ensures.items, c.take_out.ensures.items) (ordered-without _ _ (ordered-without _ c.self.inside.names.items c.self.invariant))

pub invariant_of-self : goal.invariant_of-self
invariant_of-self c = rw (c.put.ensures.items, c.take_out-then-has_kept-2.ensures.items, c.take_out.ensures.items) (ordered-add _ _ (ordered-without _ _ (ordered-without _ c.self.inside.names.items c.self.invariant)))

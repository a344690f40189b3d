use Rattle.kb_label.proofs.Ordered.{ordered-add}
use Rattle.kb_label.proofs.name_list.NameList.add.Goals as goal

pub invariant_of-self-in-Err : goal.invariant_of-self-in-Err
invariant_of-self-in-Err c =
    rw (c.in_ok-insert-in-Err.ensures.items, c.in_ok-kept-in-Err.ensures, c.self.view_is, c.in-Err.ensures.place.absent) (ordered-add c.args.process.now c.args.self.now (rw (← c.self.view_is) c.self.invariant))

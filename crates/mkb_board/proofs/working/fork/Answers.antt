use Rattle.std.proofs.Common.{List, ap, subst, sym, ◌∙◌}
use Rattle.std.specs.Prelude.{remove}
use Rattle.kb_label.specs.Names.{IsInNameOrder}
use Rattle.kb_label.proofs.Ordered.{ordered-add}
use Rattle.mkb_board.specs.Working.{processes_in}
use Rattle.mkb_board.specs.declared.working.Placed.{Placed}
use Rattle.mkb_board.proofs.Placing.{left_ordered}
use Rattle.mkb_board.proofs.working.fork.Goals as goal

pub put_in-requires-clause-in_order : goal.put_in-requires-clause-in_order
put_in-requires-clause-in_order c =
    let same = sym c.as_slice.ensures.value in
    left_ordered c.args.parent.now c.as_slice.result.now c.remove.new.self.items c.in-Ok.at (subst {A = List Placed} (λ m. IsInNameOrder (processes_in m)) same c.requires.in_order) (c.remove.ensures.items ∙ ap (λ (m : List Placed). remove m c.in-Ok.at) same) c.in-Ok.ensures.left

pub put_in-requires-in-Ok-clause-in_order : goal.put_in-requires-in-Ok-clause-in_order
put_in-requires-in-Ok-clause-in_order c =
    let same = sym c.as_slice.ensures.value in
    let left =
    left_ordered c.args.parent.now c.as_slice.result.now c.remove.new.self.items c.in-Ok.at (subst {A = List Placed} (λ m. IsInNameOrder (processes_in m)) same c.requires.in_order) (c.remove.ensures.items ∙ ap (λ (m : List Placed). remove m c.in-Ok.at) same) c.in-Ok.ensures.left in
    rw c.put_in.ensures.items (ordered-add c.child.result (processes_in c.remove.new.self.items) left)

use Rattle.std.proofs.Common.{arith}
use Rattle.kb_label.proofs.Ordered.{ordered-add}
use Rattle.mkb_rules.proofs.sleepers.Sleepers.add.Goals as goal

pub invariant_of-self-in-Err : goal.invariant_of-self-in-Err
invariant_of-self-in-Err c = (
  rw (c.in_ok-insert-in-Err.ensures.items, c.self.view_is, c.in-Err.ensures.absent) (ordered-add c.args.p.now c.args.self.now (rw (← c.self.view_is) c.self.invariant.0)),
  omega (arith, c.insert.ensures.capacity, c.self.invariant.1),
)

use Rattle.std.proofs.Common.{arith}
use Rattle.kb_label.specs.Forks.{at_first}
use Rattle.kb_label.proofs.list_labels.NameLogLiving.start.Goals as goal

pub invariant_of-result : goal.invariant_of-result
invariant_of-result c = (rw (c.in_ok-push.ensures.items, c.new-names.ensures.items, c.root.ensures) at_first, rw (c.in_ok-push.ensures.items, c.new-names.ensures.items) (omega arith))

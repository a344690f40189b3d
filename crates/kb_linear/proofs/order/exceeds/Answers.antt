use Rattle.std.proofs.Common.{arith}
use Rattle.kb_term.specs.Tree.{tree_depth}
use Rattle.kb_term.specs.View.{tree_of}
use Rattle.kb_linear.proofs.Values.{power_le}
use Rattle.kb_linear.proofs.order.exceeds.Goals as goal

pub add-requires-clause-scale_fits : goal.add-requires-clause-scale_fits
add-requires-clause-scale_fits c = omega (arith, power_le (tree_depth (tree_of c.args.s.now)) 64 c.requires.left.depth)

pub add-requires-2-clause-scale_fits : goal.add-requires-2-clause-scale_fits
add-requires-2-clause-scale_fits c = omega (arith, power_le (tree_depth (tree_of c.args.t.now)) 64 c.requires.right.depth)

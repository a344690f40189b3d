use Rattle.std.proofs.Common.{arith}
use Rattle.kb_term.specs.View.{tree_of}
use Rattle.kb_kbo.proofs.Counts.{holds_below}
use Rattle.kb_lpo.proofs.Answering.{holds}
use Rattle.kb_kbo.proofs.order.holds_variables.Goals as goal

pub count_variables-requires-clause-room : goal.count_variables-requires-clause-room
count_variables-requires-clause-room c = λ n. omega (arith, c.no_counts-left.ensures n, c.requires.left.size)

pub count_variables-requires-2-clause-room : goal.count_variables-requires-2-clause-room
count_variables-requires-2-clause-room c = λ n. omega (arith, c.no_counts-right.ensures n, c.requires.right.size)

pub returns : goal.returns
returns c =
    holds (holds_below 64 (tree_of c.args.s.now) (tree_of c.args.t.now) c.requires.right.variables (λ n h. omega (arith, c.loop-k.invariant n (omega (arith, h, c.loop-k-test.false)), c.no_counts-left.ensures n, c.no_counts-right.ensures n, c.count_variables.ensures n, c.count_variables-2.ensures n)))

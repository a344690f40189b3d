use Rattle.std.proofs.Common.{◌≤◌, ◌<◌, ◌+◌, All}
use Rattle.kb_term.specs.Tree.{variables_of, tree_size, tree_depth}
use Rattle.kb_term.specs.View.{tree_of}
use Rattle.orders_tests.proofs.certificates.word.Given as goal

abbrev pub invariant-loop-f : goal.invariant-loop-f
invariant-loop-f l = All (λ n. n < 64) (variables_of (tree_of l.t)) × (tree_size (tree_of l.t) ≤ l.f-index + 1) × (tree_depth (tree_of l.t) ≤ l.f-index + 1)

use Rattle.std.proofs.Common.{◌≤◌}
use Rattle.orders_tests.proofs.precedences.agreements.Given as goal

abbrev pub invariant-loop-n : goal.invariant-loop-n
invariant-loop-n g l = l.found ≤ l.n

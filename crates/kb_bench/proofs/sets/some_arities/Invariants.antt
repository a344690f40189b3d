use Rattle.std.proofs.Common.{◌≡◌, length}
use Rattle.kb_bench.proofs.sets.some_arities.Given as goal

abbrev pub invariant-loop : goal.invariant-loop
invariant-loop l = length l.arities.items ≡ l.counter

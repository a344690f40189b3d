use Rattle.std.proofs.Common.{take}
use Rattle.kb_trace.specs.Steps.{ArePairsWithin}
use Rattle.texts_tests.proofs.traces.are_within.Given as goal

abbrev pub invariant-loop-k : goal.invariant-loop-k
invariant-loop-k l = ArePairsWithin (take l.k l.t)

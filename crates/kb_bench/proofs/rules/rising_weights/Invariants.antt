use Rattle.std.proofs.Common.{All}
use Rattle.kb_kbo.specs.Measures.{IsWeight}
use Rattle.kb_bench.proofs.rules.rising_weights.Given as goal

abbrev pub invariant-loop-f : goal.invariant-loop-f
invariant-loop-f l = All IsWeight l.weights.items

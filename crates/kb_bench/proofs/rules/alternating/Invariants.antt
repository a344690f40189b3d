use Rattle.kb_linear.specs.Limits.{IsSmall, interpretation_of}
use Rattle.kb_bench.proofs.rules.alternating.Given as goal

abbrev pub invariant-loop-f : goal.invariant-loop-f
invariant-loop-f l = IsSmall (interpretation_of l.rows.items)

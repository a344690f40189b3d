use Rattle.kb_linear.specs.Limits.{AreMeasurable}
use Rattle.kb_bench.proofs.rules.guided_rules.Given as goal

abbrev pub invariant-loop : goal.invariant-loop
invariant-loop l = AreMeasurable l.rules.items

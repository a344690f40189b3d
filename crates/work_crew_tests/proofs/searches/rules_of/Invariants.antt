use Rattle.kb_linear.specs.Limits.{AreMeasurable}
use Rattle.work_crew_tests.proofs.searches.rules_of.Given as goal

-- the rules so far
abbrev pub invariant-loop-left : goal.invariant-loop-left
invariant-loop-left g l = AreMeasurable l.rules.items

use Rattle.kb_report.proofs.StepsRead.{IsFrontOf}
use Rattle.kb_report.proofs.steps.front_of.Given as goal

-- the lines so far, and where the next begins
abbrev pub invariant-loop-k : goal.invariant-loop-k
invariant-loop-k l = IsFrontOf l.text l.k l.at

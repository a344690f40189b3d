use Rattle.rules_in_use.proofs.Indexed.{IsIndexUpTo}
use Rattle.rules_in_use.proofs.in_use.RulesInUse.of.Given as goal

abbrev pub invariant-loop-n : goal.invariant-loop-n
invariant-loop-n l = IsIndexUpTo l.state l.n l.rules

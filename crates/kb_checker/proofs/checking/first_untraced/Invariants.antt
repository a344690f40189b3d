use Rattle.std.proofs.Common.{take, All}
use Rattle.kb_checker.specs.Answers.{IsTraced}
use Rattle.kb_checker.proofs.checking.first_untraced.Given as goal

-- the rules so far are traced
abbrev pub invariant-loop-k : goal.invariant-loop-k
invariant-loop-k l = All (IsTraced l.trace) (take l.k l.rules)

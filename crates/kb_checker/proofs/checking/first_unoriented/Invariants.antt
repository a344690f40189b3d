use Rattle.std.proofs.Common.{take, All}
use Rattle.kb_checker.specs.Answers.{IsOriented}
use Rattle.kb_checker.proofs.checking.first_unoriented.Given as goal

-- the rules so far are ordered
abbrev pub invariant-loop-k : goal.invariant-loop-k
invariant-loop-k l = All (IsOriented l.cert) (take l.k l.rules)

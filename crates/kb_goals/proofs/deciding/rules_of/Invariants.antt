use Rattle.std.proofs.Common.{◌≡◌, take}
use Rattle.kb_checker.specs.Answers.{rules_of}
use Rattle.kb_goals.proofs.deciding.rules_of.Given as goal

-- the rules so far
abbrev pub invariant-loop-rule : goal.invariant-loop-rule
invariant-loop-rule l = l.rules.items ≡ rules_of (take l.rule-index l.answer.rules)

use Rattle.std.proofs.Common.{◌≡◌, max, drop}
use Rattle.kb_export.specs.RuleTexts.{sides_of, variable_bound_of}
use Rattle.kb_export.proofs.rules.variable_count.Given as goal

-- the rules that are left decide
abbrev pub invariant-loop-rule : goal.invariant-loop-rule
invariant-loop-rule l = max l.count (variable_bound_of (sides_of (drop l.rule-index l.rules))) ≡ variable_bound_of (sides_of l.rules)

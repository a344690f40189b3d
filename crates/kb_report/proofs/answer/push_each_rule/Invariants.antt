use Rattle.std.proofs.Common.{◌≡◌, ◌++◌}
use Rattle.std.specs.Prelude.{flat_map, take}
use Rattle.kb_text.specs.Terms.{names_of}
use Rattle.kb_report.specs.Answers.{rule_line}
use Rattle.kb_report.proofs.answer.push_each_rule.Given as goal

-- the rules so far were added
abbrev pub invariant-loop-rule : goal.invariant-loop-rule
invariant-loop-rule l = l.out.items ≡ l.fn.out.items ++ flat_map (rule_line (names_of l.signature)) (take l.rule-index l.rules)

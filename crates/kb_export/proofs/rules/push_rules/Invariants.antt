use Rattle.std.proofs.Common.{◌≡◌, ◌++◌}
use Rattle.std.specs.Prelude.{flat_map, take}
use Rattle.kb_text.specs.Terms.{names_of}
use Rattle.kb_export.specs.RuleTexts.{arrow_line, sides_of}
use Rattle.kb_export.proofs.rules.push_rules.Given as goal

-- the lines of the rules so far were added
abbrev pub invariant-loop-rule : goal.invariant-loop-rule
invariant-loop-rule l = l.out.items ≡ l.fn.out.items ++ flat_map (arrow_line (names_of l.signature)) (sides_of (take l.rule-index l.rules))

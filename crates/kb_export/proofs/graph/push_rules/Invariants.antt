use Rattle.std.proofs.Common.{◌≡◌, ◌++◌}
use Rattle.std.specs.Prelude.{flat_map, take}
use Rattle.kb_text.specs.Terms.{names_of}
use Rattle.kb_export.specs.Graphs.{rule_line}
use Rattle.kb_export.proofs.graph.push_rules.Given as goal

-- the rules so far were marked
abbrev pub invariant-loop-rule : goal.invariant-loop-rule
invariant-loop-rule l = l.out.items ≡ l.fn.out.items ++ flat_map (rule_line (names_of l.signature)) (take l.rule-index l.rules)

use Rattle.std.proofs.Common.{◌≡◌, length}
use Rattle.kb_checker.specs.Answers.{IsRuleForm}
use Rattle.kb_text.specs.Terms.{names_of}
use Rattle.kb_report.specs.SystemSections.{rule_body}
use Rattle.kb_report.proofs.SectionLaws.{AreReadItems}
use Rattle.kb_report.proofs.sides.read_rules.Given as goal

-- the rules so far were read, and the next line begins at the place
abbrev pub invariant-loop-k : goal.invariant-loop-k
invariant-loop-k l = record {
  read : AreReadItems (IsRuleForm l.sig) (λ k. rule_body (names_of l.sig)) l.text l.rules.items l.at;
  count : length l.rules.items ≡ l.k;
}

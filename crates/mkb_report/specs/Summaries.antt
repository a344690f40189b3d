-- A board in numbers.
use Rattle.std.specs.Prelude.{ℕ, ◌-◌, ◌&&◌, Bool, length, filter, Option, Some}
use Rattle.kb_label.specs.declared.verdict.Verdict.{Verdict}
use Rattle.kb_label.specs.declared.verdict.Verdict.TheVariants as verdicts
use Rattle.mkb_model.specs.Plain.{Plain, PlainNode, rules_of, is_over}
use Rattle.mkb_model.specs.Verdicts.{verdict}
use Rattle.mkb_model.specs.Sleeping.{no_members}
use Rattle.kb_report.specs.declared.summary.Summary.{Summary}

-- the node is no rule and no equation of any process
abbrev pub is_dead : PlainNode → Bool
is_dead x = no_members x.rule0 && (no_members x.rule1 && no_members x.equation)

-- how many rules the complete process has, else 0
abbrev pub rule_count : Plain → Option Verdict → ℕ
rule_count b (Some (verdicts.Complete p)) = length (rules_of b p)
rule_count b v = 0

-- the board in numbers, with how many tickets were dropped; a fork makes one process more
abbrev pub summary_of : Plain → ℕ → Summary
summary_of b drops = record {
  verdict = verdict b;
  commits = b.commits;
  drops = drops;
  nodes = length b.nodes;
  dead = length (filter is_dead b.nodes);
  forks = length b.living - 1;
  living = length b.living;
  over = length (filter (is_over b) b.living);
  rules = rule_count b (verdict b);
}

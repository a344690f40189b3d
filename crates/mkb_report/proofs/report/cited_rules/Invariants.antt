use Rattle.std.proofs.Common.{ℕ, ◌≡◌, map, take}
use Rattle.kb_term.specs.Rule.{Rule}
use Rattle.mkb_model.specs.Plain.{rules_at}
use Rattle.mkb_report.specs.Cited.{cited_by}
use Rattle.mkb_report.proofs.report.cited_rules.Given as goal

-- the rules of the names so far, each with its number
abbrev pub invariant-loop-i : goal.invariant-loop-i
invariant-loop-i l = record {
  rules : map (λ (r : Rule × ℕ). r.0) l.rules.items ≡ rules_at l.state (take l.i l.names);
  cites : map (λ (r : Rule × ℕ). r.1) l.rules.items ≡ map (cited_by l.state l.steps) (take l.i l.names);
}

use Rattle.std.proofs.Common.{◌≡◌, filter, flat_map, length}
use Rattle.kb_term.specs.declared.origin.RuleRef.{RuleRef}
use Rattle.mkb_model.specs.Plain.{numbers_from, directions, is_rule}
use Rattle.mkb_report.proofs.summary.rules_of_process.Given as goal

-- the rules of the nodes so far
abbrev pub invariant-loop-i : goal.invariant-loop-i
invariant-loop-i l = l.count ≡ length {A = RuleRef} (filter (is_rule l.state l.p) (flat_map directions (numbers_from 0 l.i)))

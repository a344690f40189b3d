use Rattle.std.proofs.Common.{◌≡◌, ◌&&◌, drop}
use Rattle.std.specs.List.{list_any}
use Rattle.kb_term.specs.declared.origin.RuleRef.{RuleRef}
use Rattle.mkb_model.specs.Plain.{is_rule}
use Rattle.mkb_agenda.specs.Open.{is_open_to}
use Rattle.mkb_agenda.proofs.due.Seen.is_gained.Given as goal

-- no rule so far makes the reducing due
abbrev pub invariant-loop-i : goal.invariant-loop-i
invariant-loop-i l = list_any (λ (a : RuleRef). is_rule l.self.state.now l.self.process.now a && is_open_to l.node.known.now.board l.node.roles l.node.known.now.node.0 a) l.rules ≡ list_any (λ (a : RuleRef). is_rule l.self.state.now l.self.process.now a && is_open_to l.node.known.now.board l.node.roles l.node.known.now.node.0 a) (drop l.i l.rules)

use Rattle.std.proofs.Common.{◌≡◌, ◌-◌, ◌&&◌, length}
use Rattle.std.specs.List.{list_any}
use Rattle.kb_term.specs.declared.origin.RuleRef.{RuleRef}
use Rattle.mkb_model.specs.DueJobs.{is_reducible}
use Rattle.mkb_model.specs.Plain.{directions, is_rule, numbers_from}
use Rattle.mkb_agenda.specs.Open.{is_open_to}
use Rattle.mkb_board.proofs.takable.has_open_rule.Given as goal

-- no rule so far is open to the node
abbrev pub invariant-loop-m : goal.invariant-loop-m
invariant-loop-m l = is_reducible l.state l.p l.n.0 ≡ list_any (λ m. list_any (λ (a : RuleRef). is_rule l.state l.p a && is_open_to l.state l.roles l.n.0 a) (directions m)) (numbers_from l.m (length l.state.nodes - l.m))

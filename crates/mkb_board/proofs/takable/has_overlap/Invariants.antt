use Rattle.std.proofs.Common.{◌≡◌, ◌-◌, ◌&&◌, length, map, flat_map}
use Rattle.std.specs.List.{list_any}
use Rattle.kb_term.specs.declared.origin.RuleRef.{RuleRef}
use Rattle.kb_node.specs.declared.job.Job.TheVariants.{Overlap}
use Rattle.mkb_model.specs.Plain.{directions, is_rule, numbers_from, rules_of}
use Rattle.mkb_board.specs.Choosing.{is_choice, jobs_of}
use Rattle.mkb_board.proofs.takable.has_overlap.Given as goal

-- no rule so far may be overlapped with another
abbrev pub invariant-loop-n : goal.invariant-loop-n
invariant-loop-n l = list_any (is_choice l.state (jobs_of l.flight)) (flat_map (λ (a : RuleRef). map (Overlap l.p a) (rules_of l.state l.p)) (rules_of l.state l.p))
    ≡ list_any (λ n. list_any (λ (a : RuleRef). is_rule l.state l.p a && list_any (is_choice l.state (jobs_of l.flight)) (map (Overlap l.p a) (rules_of l.state l.p))) (directions n)) (numbers_from l.n (length l.state.nodes - l.n))

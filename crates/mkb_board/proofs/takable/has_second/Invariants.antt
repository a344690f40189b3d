use Rattle.std.proofs.Common.{◌≡◌, ◌-◌, length, map}
use Rattle.std.specs.List.{list_any}
use Rattle.kb_term.specs.declared.origin.RuleRef.{RuleRef}
use Rattle.kb_node.specs.declared.job.Job.TheVariants.{Overlap}
use Rattle.mkb_model.specs.Plain.{directions, numbers_from, rules_of}
use Rattle.mkb_board.specs.Choosing.{is_choice, jobs_of}
use Rattle.mkb_board.proofs.takable.has_second.Given as goal

-- no rule so far may be overlapped with the first one
abbrev pub invariant-loop-n : goal.invariant-loop-n
invariant-loop-n l = list_any (is_choice l.state (jobs_of l.flight)) (map (Overlap l.p l.a) (rules_of l.state l.p))
    ≡ list_any (λ n. list_any (λ (c : RuleRef). is_choice l.state (jobs_of l.flight) (Overlap l.p l.a c)) (directions n)) (numbers_from l.n (length l.state.nodes - l.n))

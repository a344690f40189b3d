use Rattle.std.proofs.Common.{◌≡◌, ◌-◌, length, map}
use Rattle.std.specs.List.{list_any}
use Rattle.kb_node.specs.declared.job.Job.TheVariants.{Orient}
use Rattle.mkb_model.specs.Plain.{node_numbers, numbers_from}
use Rattle.mkb_board.specs.Choosing.{is_choice, jobs_of}
use Rattle.mkb_board.proofs.takable.has_orient.Given as goal

-- no node so far may be oriented
abbrev pub invariant-loop-n : goal.invariant-loop-n
invariant-loop-n l = list_any (is_choice l.state (jobs_of l.flight)) (map (λ n. Orient l.p (record { 0 = n })) (node_numbers l.state))
    ≡ list_any (λ n. is_choice l.state (jobs_of l.flight) (Orient l.p (record { 0 = n }))) (numbers_from l.n (length l.state.nodes - l.n))

-- The order of jobs that stand with their weights.
use Rattle.std.specs.Prelude.{ℕ}
use Rattle.std.specs.Ordering.{ordering_then, nat_cmp}
use Rattle.std.specs.Cmp.Lexicographic.{slice_cmp}
use Rattle.std.specs.declared.cmp.Ordering.{Ordering}
use Rattle.kb_label.specs.Names.{name_cmp}
use Rattle.kb_node.specs.declared.job.Job.{Job}
use Rattle.mkb_model.specs.Jobs.{process_of, kind_number, job_numbers}

-- a job with its weight, and with the cost of its process
pub record Weighed : Type 0 where
  pub cost : ℕ
  pub weight : ℕ
  pub job : Job

-- the order of jobs: by the cost of the process, its name, the kind, the weight, and the numbers in the job
abbrev pub weighed_cmp : Weighed → Weighed → Ordering
weighed_cmp i j =
    ordering_then (nat_cmp i.cost j.cost)
    (ordering_then (name_cmp (process_of i.job) (process_of j.job))
    (ordering_then (nat_cmp (kind_number i.job) (kind_number j.job))
    (ordering_then (nat_cmp i.weight j.weight) (slice_cmp nat_cmp (job_numbers i.job) (job_numbers j.job)))))

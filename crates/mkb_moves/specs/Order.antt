-- The order in which due jobs are taken, told as a relation, and who gave up first by name.
use Rattle.std.specs.Prelude.{ℕ, ◌<◌, ◌≡◌, ◌⊎◌, IsTrue, IsFalse, Contains}
use Rattle.std.specs.declared.option.Option.TheVariants.{Some}
use Rattle.std.specs.declared.cmp.Ordering.TheVariants.{Less}
use Rattle.kb_linear.specs.Numbers.{IsLess}
use Rattle.kb_label.specs.Names.{Name, has, name_cmp}
use Rattle.kb_label.specs.declared.verdict.Reason.{Reason}
use Rattle.kb_node.specs.declared.job.Job.{Job}
use Rattle.mkb_model.specs.Jobs.{process_of, kind_number, job_numbers, clashes}
use Rattle.mkb_model.specs.Plain.{Plain, cost, weight, is_over, over_reason}
use Rattle.mkb_model.specs.DueJobs.{is_due, free_jobs}
use Rattle.mkb_model.specs.declared.entry.Ticket.{Ticket}

-- ---- jobs

-- p comes before q by name
abbrev pub IsNameBefore : Name → Name → Type 0
IsNameBefore p q = name_cmp p q ≡ Less

-- less by a number, or equal by it and less by what comes next
abbrev pub IsLessOr : ℕ → ℕ → Type 0 → Type 0
IsLessOr m n Next = (m < n) ⊎ ((m ≡ n) × Next)

-- before by name, or of one name and less by what comes next
abbrev pub IsNameBeforeOr : Name → Name → Type 0 → Type 0
IsNameBeforeOr p q Next = IsNameBefore p q ⊎ ((p ≡ q) × Next)

-- i comes before j: by the cost of its process, then its process's name, then the kind, then the weight by the selection, then the numbers of the nodes and rules that it names
abbrev pub IsBefore : Plain → Job → Job → Type 0
IsBefore b i j =
    IsLessOr (cost b (process_of i)) (cost b (process_of j))
    (IsNameBeforeOr (process_of i) (process_of j)
    (IsLessOr (kind_number i) (kind_number j)
    (IsLessOr (weight b i) (weight b j) (IsLess (job_numbers i) (job_numbers j)))))

-- the job is due, its process lives and doesn't sleep, and no job in flight clashes with it
pub record MayBeTaken (b : Plain) (j : Job) : Type 0 where
  pub due : IsTrue (is_due b j)
  pub lives : IsTrue (has b.living (process_of j))
  pub awake : IsFalse (has b.asleep (process_of j))
  pub clear : (t : Ticket) → Contains b.flight t → IsFalse (clashes j t.job)

-- i may be taken, and each other job that may be comes after it
abbrev pub IsLeastFree : Plain → Job → Type 0
IsLeastFree b i = Contains (free_jobs b) i × ((j : Job) → Contains (free_jobs b) j → ((j ≡ i) ⊎ IsBefore b i j) × ¬ IsBefore b j i)

-- ---- who gave up

-- the process lives and gave up for this reason, and no living process before it by name gave up
pub record IsFirstOver (b : Plain) (p : Name) (r : Reason) : Type 0 where
  pub lives : IsTrue (has b.living p)
  pub reason : over_reason b p ≡ Some r
  pub first : (q : Name) → IsTrue (has b.living q) → IsNameBefore q p → IsFalse (is_over b q)

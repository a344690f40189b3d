-- Tasks: jobs without their processes, with their weights.
use Rattle.std.specs.Prelude.{ℕ, zero, suc, ◌≡◌, ◌^◌, ◌/◌, ◌%◌, List, [], ◌∷◌, Bool, ◌≤◌, map}
use Rattle.std.specs.Ordering.{nat_cmp}
use Rattle.std.specs.Cmp.Lexicographic.{slice_cmp}
use Rattle.std.specs.declared.cmp.Ordering.{Ordering}
use Rattle.kb_label.specs.Names.{Name}
use Rattle.kb_node.specs.declared.job.Job.{Job}
use Rattle.kb_node.specs.declared.job.Job.TheVariants.{Reduce, Orient, Overlap, Close}
use Rattle.mkb_pick.specs.declared.task.Work.{Work}
use Rattle.mkb_pick.specs.declared.task.Work.TheVariants.{Reducing, Orienting, Overlapping, Closing}
use Rattle.mkb_pick.specs.declared.task.Task.{Task}
use Rattle.mkb_model.specs.Jobs.{is_free}
use Rattle.mkb_pick.specs.Keys.{Fits, packed}
use Rattle.mkb_pick.specs.declared.tree.Tree.{Tree}
use Rattle.mkb_pick.specs.Trees.{HasKey, IsOrdered, keys}

-- the job of the process
abbrev pub job_of : Name → Work → Job
job_of p (Reducing n) = Reduce p n
job_of p (Orienting n) = Orient p n
job_of p (Overlapping a b) = Overlap p a b
job_of p Closing = Close p

-- what a job does, for whichever process
abbrev pub work_of : Job → Work
work_of (Reduce p n) = Reducing n
work_of (Orient p n) = Orienting n
work_of (Overlap p a b) = Overlapping a b
work_of (Close p) = Closing

-- the four kinds in their order
abbrev pub work_kind : Work → ℕ
work_kind (Reducing n) = 0
work_kind (Orienting n) = 1
work_kind (Overlapping a b) = 2
work_kind Closing = 3

-- the numbers, as many for each kind
abbrev pub work_numbers : Work → List ℕ
work_numbers (Reducing n) = n.0 ∷ 0 ∷ 0 ∷ 0 ∷ []
work_numbers (Orienting n) = n.0 ∷ 0 ∷ 0 ∷ 0 ∷ []
work_numbers (Overlapping a b) = a.node ∷ a.dir ∷ b.node ∷ b.dir ∷ []
work_numbers Closing = 0 ∷ 0 ∷ 0 ∷ 0 ∷ []

-- the kind, the weight and the numbers
abbrev pub work_key : Work → ℕ → List ℕ
work_key work w = work_kind work ∷ w ∷ work_numbers work

-- what the numbers are below
abbrev pub number_bounds : List ℕ
number_bounds = 2 ^ 16 ∷ 2 ^ 8 ∷ 2 ^ 16 ∷ 2 ^ 8 ∷ []

-- what the kind, the weight and the numbers are below
abbrev pub task_bounds : List ℕ
task_bounds = 4 ∷ 2 ^ 32 ∷ number_bounds

-- the order of the tasks of one process
abbrev pub task_cmp : Task → Task → Ordering
task_cmp s t = slice_cmp nat_cmp (work_key s.work s.weight) (work_key t.work t.weight)

-- the key of a task, and that its numbers are below their bounds
abbrev pub IsTaskKey : ℕ → Task → Type 0
IsTaskKey k t = Fits task_bounds (work_key t.work t.weight) × (k ≡ packed task_bounds (work_key t.work t.weight))

-- the task is of a kind from low to high
abbrev pub IsWithin : ℕ → ℕ → Task → Type 0
IsWithin low high t = (low ≤ work_kind t.work) × (work_kind t.work ≤ high)

-- the task of the process clashes with none of the jobs in flight
abbrev pub is_open : List Job → Name → Task → Bool
is_open flight p t = is_free flight (job_of p t.work)

-- the work of the kind with these numbers
abbrev pub work_at : ℕ → ℕ → ℕ → ℕ → ℕ → Work
work_at zero n d m e = Reducing (record { 0 = n })
work_at (suc zero) n d m e = Orienting (record { 0 = n })
work_at (suc (suc zero)) n d m e = Overlapping (record { node = n; dir = d }) (record { node = m; dir = e })
work_at (suc (suc (suc kind))) n d m e = Closing

-- the task that has the key
abbrev pub task_at : ℕ → Task
task_at k = record { work = work_at (k / 2 ^ 80) (k / 2 ^ 32 % 2 ^ 16) (k / 2 ^ 24 % 2 ^ 8) (k / 2 ^ 8 % 2 ^ 16) (k % 2 ^ 8); weight = k / 2 ^ 48 % 2 ^ 32 }

-- the number is the key of a task
abbrev pub IsCode : ℕ → Type 0
IsCode k = IsTaskKey k (task_at k)

-- the task stands in the tree, by its key
unfoldable pub Has : Tree → Task → Type 0
Has tasks t = (k : ℕ) × HasKey tasks k × (task_at k ≡ t)

-- the numbers of the tree are in order, and each is the key of a task
unfoldable pub IsAgenda : Tree → Type 0
IsAgenda tasks = IsOrdered tasks × ((k : ℕ) → HasKey tasks k → IsCode k)

-- what is seen of each task, in their order
abbrev pub seen : {Y : Type 0} → (Task → Y) → Tree → List Y
seen f tasks = map (λ k. f (task_at k)) (keys tasks)

-- What an agenda lists.
use Rattle.std.specs.Prelude.{ℕ, ◌≡◌, ◌⊎◌, ◌↔◌, List, Bool, true, false, Contains}
use Rattle.std.specs.declared.cmp.Ordering.TheVariants.{Less}
use Rattle.std.specs.declared.option.Option.{Option}
use Rattle.std.specs.declared.option.Option.TheVariants.{Some, None}
use Rattle.kb_label.specs.Names.{Name, child}
use Rattle.kb_node.specs.declared.job.Job.{Job}
use Rattle.mkb_pick.specs.Jobs.{Weighed, weighed_cmp}
use Rattle.mkb_pick.specs.Tasks.{job_of, work_of}
use Rattle.mkb_model.specs.Jobs.{process_of, is_free}

-- a listed process, and its jobs with their weights
pub record Listed : Type 0 where
  pub name : Name
  pub cost : ℕ
  pub resting : Bool
  pub jobs : List (Job × ℕ)

-- the listed processes, and for how many more jobs and processes there is room
pub record Listing : Type 0 where
  pub processes : List Listed
  pub spare_jobs : ℕ
  pub spare_processes : ℕ

-- the process is listed with this cost, and rests or not
abbrev pub IsListed : List Listed → Name → ℕ → Bool → Type 0
IsListed ps n c r = (l : Listed) × Contains ps l × (l.name ≡ n) × (l.cost ≡ c) × (l.resting ≡ r)

-- the process is listed
abbrev pub IsProcess : List Listed → Name → Type 0
IsProcess ps n = (l : Listed) × Contains ps l × (l.name ≡ n)

-- the job is listed with this weight
abbrev pub HasJob : List Listed → Job → ℕ → Type 0
HasJob ps j w = (l : Listed) × Contains ps l × (l.name ≡ process_of j) × Contains l.jobs (j, w)

-- the job is listed, its process does not rest, and it clashes with none of those in flight
abbrev pub IsOffered : List Listed → List Job → Weighed → Type 0
IsOffered ps flight w = IsListed ps (process_of w.job) w.cost false × HasJob ps w.job w.weight × (is_free flight w.job ≡ true)

-- the least job that is offered, or that there is none
abbrev pub IsLeastOffered : List Listed → List Job → Option Job → Type 0
IsLeastOffered ps flight None = (w : Weighed) → ¬ IsOffered ps flight w
IsLeastOffered ps flight (Some job) =
    (w : Weighed) × (w.job ≡ job) × IsOffered ps flight w × ((v : Weighed) → IsOffered ps flight v → (v ≡ w) ⊎ (weighed_cmp w v ≡ Less))

-- ---- one process changes

-- the process is listed with this cost now, and each other one as before
abbrev pub SetsCost : List Listed → Name → ℕ → List Listed → Type 0
SetsCost ps p cost qs = (n : Name) (c : ℕ) (r : Bool) → IsListed qs n c r ↔ (((n ≡ p) × (c ≡ cost) × ((d : ℕ) × IsListed ps n d r)) ⊎ ((¬ (n ≡ p)) × IsListed ps n c r))

-- the process rests now, or not, and each other one is listed as before
abbrev pub SetsRest : List Listed → Name → Bool → List Listed → Type 0
SetsRest ps p rests qs = (n : Name) (c : ℕ) (r : Bool) → IsListed qs n c r ↔ (((n ≡ p) × (r ≡ rests) × ((s : Bool) × IsListed ps n c s)) ⊎ ((¬ (n ≡ p)) × IsListed ps n c r))

-- n is one of the two children of p
abbrev pub IsChild : Name → Name → Type 0
IsChild p n = (n ≡ child p false) ⊎ (n ≡ child p true)

-- the children of the process are listed as it was, in its place, and each other process as before
abbrev pub SplitsProcess : List Listed → Name → List Listed → Type 0
SplitsProcess ps p qs = (n : Name) (c : ℕ) (r : Bool) → IsListed qs n c r ↔ ((IsChild p n × IsListed ps p c r) ⊎ ((¬ (n ≡ p)) × IsListed ps n c r))

-- each job of the process is a job of either child, and each other job is listed as before
abbrev pub SplitsJobs : List Listed → Name → List Listed → Type 0
SplitsJobs ps p qs =
    (j : Job) (w : ℕ) → HasJob qs j w ↔ ((IsChild p (process_of j) × HasJob ps (job_of p (work_of j)) w) ⊎ ((¬ (process_of j ≡ p)) × HasJob ps j w))

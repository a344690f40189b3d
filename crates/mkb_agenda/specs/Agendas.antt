-- What an agenda of a board lists.
use Rattle.std.specs.Prelude.{ℕ, ◌≡◌, ◌≢◌, ◌⊎◌, ◌↔◌, List, Bool, Contains, IsTrue}
use Rattle.kb_label.specs.Names.{Name, has}
use Rattle.kb_node.specs.declared.job.Job.{Job}
use Rattle.mkb_model.specs.Jobs.{process_of}
use Rattle.mkb_model.specs.Plain.{Plain, cost, weight}
use Rattle.mkb_model.specs.DueJobs.{is_working, due_jobs_of}
use Rattle.mkb_pick.specs.Tasks.{job_of, work_of}
use Rattle.mkb_pick.specs.Listings.{Listed, IsListed, HasJob}

-- the job is one of those that are due for its process
abbrev pub IsDueJob : Plain → Job → Type 0
IsDueJob b j = Contains (due_jobs_of b (process_of j)) j

-- the processes that live and have not given up are listed, each with its cost and whether it sleeps
abbrev pub ListsProcesses : Plain → List Listed → Type 0
ListsProcesses b ps = (p : Name) (c : ℕ) (r : Bool) → IsListed ps p c r ↔ (IsTrue (is_working b p) × (c ≡ cost b p) × (r ≡ has b.asleep p))

-- the due jobs are listed, each under its weight
abbrev pub ListsJobs : Plain → List Listed → Type 0
ListsJobs b ps = (j : Job) (w : ℕ) → HasJob ps j w ↔ (IsDueJob b j × (w ≡ weight b j))

-- the agenda of the board: it lists the processes that live and have not given up, and the jobs that are due for them
pub record IsAgendaOf (b : Plain) (ps : List Listed) : Type 0 where
  pub processes : ListsProcesses b ps
  pub jobs : ListsJobs b ps

-- the jobs that are listed for q are those due for p on the board, under the name of q
abbrev pub ListsJobsAs : Plain → Name → Name → List Listed → Type 0
ListsJobsAs b p q ps = (j : Job) (w : ℕ) → process_of j ≡ q → HasJob ps j w ↔ (IsDueJob b (job_of p (work_of j)) × (w ≡ weight b j))

-- q is listed as p is on the board: where p lives and has not given up, with the cost of p and resting where p sleeps; and the jobs listed for q are those due for p, under the name of q
pub record IsListedAs (b : Plain) (p q : Name) (ps : List Listed) : Type 0 where
  pub listed : (c : ℕ) (r : Bool) → IsListed ps q c r ↔ (IsTrue (is_working b p) × (c ≡ cost b p) × (r ≡ has b.asleep p))
  pub jobs : ListsJobsAs b p q ps

-- the process is listed beside those that are, with no cost, resting or not
abbrev pub SeatsProcess : List Listed → Name → Bool → List Listed → Type 0
SeatsProcess ps p rests qs = (n : Name) (c : ℕ) (r : Bool) → IsListed qs n c r ↔ (((n ≡ p) × (c ≡ 0) × (r ≡ rests)) ⊎ IsListed ps n c r)

-- each process but q is listed as before
abbrev pub LeavesOthers : Name → List Listed → List Listed → Type 0
LeavesOthers q ps qs = (x : Plain) (p r : Name) → r ≢ q → IsListedAs x p r ps → IsListedAs x p r qs

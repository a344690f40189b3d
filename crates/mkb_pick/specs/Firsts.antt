-- What comes first.
use Rattle.std.specs.Prelude.{ℕ, ◌≡◌, ◌<◌, ◌≤◌, ◌⊎◌, true, false, List}
use Rattle.std.specs.Ordering.{ordering_then, nat_cmp}
use Rattle.std.specs.declared.cmp.Ordering.TheVariants.{Less}
use Rattle.std.specs.declared.option.Option.{Option}
use Rattle.std.specs.declared.option.Option.TheVariants.{Some, None}
use Rattle.kb_label.specs.Names.{Name, name_cmp}
use Rattle.kb_node.specs.declared.job.Job.{Job}
use Rattle.mkb_pick.specs.declared.tree.Tree.{Tree}
use Rattle.mkb_pick.specs.declared.queue.Entry.{Entry}
use Rattle.mkb_pick.specs.declared.queue.Queue.{Queue}
use Rattle.mkb_pick.specs.declared.search.Choice.{Choice}
use Rattle.mkb_pick.specs.declared.task.Task.{Task}
use Rattle.mkb_pick.specs.Tasks.{Has, job_of, is_open, task_at, task_cmp}
use Rattle.mkb_pick.specs.Runs.{Precedes}
use Rattle.mkb_pick.specs.Queues.{Stands, IsAt}

-- the first task with P, or that there is none
abbrev pub IsFirst : Tree → (Task → Type 0) → Option Task → Type 0
IsFirst tasks P None = (y : Task) → Has tasks y → ¬ P y
IsFirst tasks P (Some x) = Has tasks x × P x × ((y : Task) → Has tasks y → P y → (y ≡ x) ⊎ (task_cmp x y ≡ Less))

-- the key is from low on and before high, and that of a task which clashes with nothing in flight
unfoldable pub IsOffer : List Job → Name → ℕ → ℕ → ℕ → Type 0
IsOffer flight n low high k = (low ≤ k) × (k < high) × (is_open flight n (task_at k) ≡ true)

-- the least of the numbers with P, or that there is none
abbrev pub IsLeast : (ℕ → Type 0) → (ℕ → Type 0) → Option ℕ → Type 0
IsLeast Q P None = (k : ℕ) → Q k → ¬ P k
IsLeast Q P (Some x) = Q x × P x × ((k : ℕ) → Q k → P k → (x ≡ k) ⊎ Precedes x k)

-- the first task of the process that clashes with nothing in flight
abbrev pub IsFirstOpen : List Job → Name → Entry → Option Task → Type 0
IsFirstOpen flight n e r = IsFirst e.tasks (λ t. is_open flight n t ≡ true) r

-- the process does not rest and has a task that clashes with nothing in flight
abbrev pub IsReady : List Job → Name → Entry → Type 0
IsReady flight n e = (e.resting ≡ false) × ((t : Task) × Has e.tasks t × (is_open flight n t ≡ true))

-- the first process comes before the second by cost and name
abbrev pub IsSooner : Name → Entry → Name → Entry → Type 0
IsSooner n e m f = ordering_then (nat_cmp e.cost f.cost) (name_cmp n m) ≡ Less

-- the first task of the first process that is ready
abbrev pub IsNext : Queue → List Job → Option Job → Type 0
IsNext q flight None = (n : Name) (e : Entry) → IsAt q n e → ¬ IsReady flight n e
IsNext q flight (Some job) =
    (n : Name) × (e : Entry) × (t : Task) × IsAt q n e × (e.resting ≡ false) × (job ≡ job_of n t.work) × IsFirstOpen flight n e (Some t) × ((m : Name) (f : Entry) → IsAt q m f → IsReady flight m f → ((m ≡ n) × (f ≡ e)) ⊎ IsSooner n e m f)

-- the choice among the processes before this place, or that none of them is ready
abbrev pub IsChoice : Queue → List Job → ℕ → Option Choice → Type 0
IsChoice q flight i None = (k : ℕ) (n : Name) (e : Entry) → k < i → Stands q.names.items q.entries.items k n e → ¬ IsReady flight n e
IsChoice q flight i (Some c) =
    (n : Name) × (e : Entry) × Stands q.names.items q.entries.items c.place n e × (c.place < i) × (c.cost ≡ e.cost) × (e.resting ≡ false) × IsFirstOpen flight n e (Some c.task)
    × ((k : ℕ) (m : Name) (f : Entry) → k < i → Stands q.names.items q.entries.items k m f → IsReady flight m f → ((m ≡ n) × (f ≡ e)) ⊎ IsSooner n e m f)

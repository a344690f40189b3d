-- The processes of a queue, in the order of their names.
use Rattle.std.specs.Prelude.{ℕ, ◌≡◌, ◌<◌, ◌≤◌, ◌+◌, Bool, List, length, get_or, All, Contains, vec_len, vec_capacity}
use Rattle.std.specs.declared.option.Option.{Option}
use Rattle.std.specs.declared.option.Option.TheVariants.{Some, None}
use Rattle.kb_label.specs.Names.{Name, IsInNameOrder}
use Rattle.mkb_pick.specs.Trees.{count}
use Rattle.mkb_pick.specs.Tasks.{Has, IsAgenda}
use Rattle.mkb_pick.specs.Marks.{IsTold}
use Rattle.mkb_pick.specs.declared.task.Task.{Task}
use Rattle.mkb_pick.specs.declared.tree.Tree.{Tree}
use Rattle.mkb_pick.specs.declared.queue.Entry.{Entry}
use Rattle.mkb_pick.specs.declared.queue.Queue.{Queue}

-- the name stands at the place of its list, and the entry at that of its own
abbrev pub Stands : List Name → List Entry → ℕ → Name → Entry → Type 0
Stands names entries k n e = (k < length names) × (get_or names k n ≡ n) × (get_or entries k e ≡ e)

-- the process is listed with the entry
abbrev pub IsAt : Queue → Name → Entry → Type 0
IsAt q n e = (k : ℕ) × Stands q.names.items q.entries.items k n e

-- there are as many tasks as is told, if it is
abbrev pub IsTally : Option ℕ → Tree → Type 0
IsTally None tasks = Unit {0}
IsTally (Some n) tasks = n ≡ count tasks

-- what holds of an entry: the tasks are ordered, what the marks say of them holds, and there are as many as is told
abbrev pub IsSound : Entry → Type 0
IsSound e = IsAgenda e.tasks × IsTold e.marks e.tasks × IsTally e.tally e.tasks

-- what holds of a queue: the names are in order and have an entry each, the entries are sound, and there is as much room as is told
pub record IsQueue (q : Queue) : Type 0 where
  pub in_order : IsInNameOrder q.names.items
  pub beside : length q.entries.items ≡ length q.names.items
  pub sound : All IsSound q.entries.items
  pub room : vec_len q.names + q.spare ≤ vec_capacity q.names
  pub room_beside : vec_len q.entries + q.spare ≤ vec_capacity q.entries

-- the process is listed with an entry that has P
abbrev pub With : Queue → Name → (Entry → Type 0) → Type 0
With q n P = (e : Entry) × IsAt q n e × P e

-- the entry has this cost, and rests or not
abbrev pub Shows : ℕ → Bool → Entry → Type 0
Shows c r e = (e.cost ≡ c) × (e.resting ≡ r)

-- the process is listed with this cost, and rests or not
abbrev pub Sits : Queue → Name → ℕ → Bool → Type 0
Sits q n c r = With q n (Shows c r)

-- the process is listed and has the task
abbrev pub HasTask : Queue → Name → Task → Type 0
HasTask q n t = With q n (λ e. Has e.tasks t)

-- the process is listed
abbrev pub IsSeated : Queue → Name → Type 0
IsSeated q n = Contains q.names.items n

-- What is known of the reducings of a process, node by node.
use Rattle.std.specs.Prelude.{ℕ, ◌≡◌, ◌⊎◌, ◌↔◌, get_or}
use Rattle.mkb_pick.specs.declared.marks.Mark.{Mark}
use Rattle.mkb_pick.specs.declared.marks.Mark.TheVariants.{Absent, Single, Unknown}
use Rattle.mkb_pick.specs.declared.marks.Marks.{Marks}
use Rattle.mkb_pick.specs.declared.task.Work.TheVariants.{Reducing}
use Rattle.mkb_pick.specs.declared.task.Task.{Task}
use Rattle.mkb_pick.specs.declared.tree.Tree.{Tree}
use Rattle.mkb_pick.specs.Tasks.{Has}

-- the mark of a node
abbrev pub mark_at : Marks → ℕ → Mark
mark_at m k = get_or m.first.items k m.beyond

-- the mark where there is one more
abbrev pub more : Mark → Mark
more Absent = Single
more Single = Unknown
more Unknown = Unknown

-- the mark where there is one fewer
abbrev pub fewer : Mark → Mark
fewer Absent = Unknown
fewer Single = Absent
fewer Unknown = Unknown

-- the task of reducing a node, with its weight
abbrev pub reducing : ℕ → ℕ → Task
reducing k w = record { work = Reducing (record { 0 = k }); weight = w }

-- what a mark says of the reducings of a node
abbrev pub Tells : Mark → Tree → ℕ → Type 0
Tells Absent tasks k = (w : ℕ) → ¬ Has tasks (reducing k w)
Tells Single tasks k = (v : ℕ) × ((w : ℕ) → Has tasks (reducing k w) ↔ (w ≡ v))
Tells Unknown tasks k = Unit {0}

-- what the marks say holds of the tasks
abbrev pub IsTold : Marks → Tree → Type 0
IsTold m tasks = (k : ℕ) → Tells (mark_at m k) tasks k

-- the node has the mark now, and each other one as before; of some it may be unknown
abbrev pub IsSet : Marks → Marks → ℕ → Mark → Type 0
IsSet old new n mark = (k : ℕ) → (mark_at new k ≡ Unknown) ⊎ (((k ≡ n) × (mark_at new k ≡ mark)) ⊎ ((¬ (k ≡ n)) × (mark_at new k ≡ mark_at old k)))

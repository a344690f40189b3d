-- What a fork does to labels.
use Rattle.std.specs.Prelude.{ℕ, ◌≡◌, List, Bool, IsTrue}
use Rattle.kb_label.specs.Names.{Name, has, relabel}
use Rattle.kb_label.specs.Forks.{IsForked}
use Rattle.fork_labels.specs.Places.{IsLog, IsUnder, living_of, forked, stands_for}

-- each label that stood for a set stands for that set with both children in the place of their parent
abbrev pub RelabelsEach : Type 0
RelabelsEach = (forks : List ℕ) (set : List Bool) (p : Name) → IsLog forks → IsTrue (has (living_of forks) p) → IsUnder forks set
    → stands_for (forked forks p) set ≡ relabel p (stands_for forks set)

-- a label that was made under a log is one of the log after a fork
abbrev pub StaysUnder : Type 0
StaysUnder = (forks : List ℕ) (set : List Bool) (p : Name) → IsUnder forks set → IsUnder (forked forks p) set

-- the names that live come of forks
abbrev pub ComesOfForks : Type 0
ComesOfForks = (forks : List ℕ) → IsLog forks → IsForked (living_of forks)

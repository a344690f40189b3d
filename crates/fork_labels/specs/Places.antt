-- Forks by places, and sets of places. At a fork the first child keeps its parent's place, and the second takes the next
-- number; so a log is the list of the places that its forks split, the first fork first.
use Rattle.std.specs.Prelude.{ℕ, ◌+◌, ◌-◌, ◌<◌, ◌≤◌, List, [], ◌∷◌, ◌++◌, length, Bool, true, false, take, drop, if◌then◌else◌, slice_index_or, slice_set}
use Rattle.kb_label.specs.Names.{Name, root, child, name_eq, join}

-- ---- names by place

-- the name at a place
abbrev pub name_at : List Name → ℕ → Name
name_at names s = slice_index_or names s root

-- the names by place after the process at a place forks
unfoldable pub split : List Name → ℕ → List Name
split names s = slice_set names s (child (name_at names s) false) ++ child (name_at names s) true ∷ []

-- the names by place after forks
unfoldable pub names_after : List Name → List ℕ → List Name
names_after names [] = names
names_after names (s ∷ forks) = names_after (split names s) forks

-- the names by place of a log
abbrev pub names_of : List ℕ → List Name
names_of forks = names_after (root ∷ []) forks

-- the names that live, in the order of names
abbrev pub living_of : List ℕ → List Name
living_of forks = join (names_of forks) []

-- each fork splits a place that is there, where there are n at first
abbrev pub AreThere : ℕ → List ℕ → Type 0
AreThere n [] = Unit {0}
AreThere n (s ∷ forks) = (s < n) × AreThere (n + 1) forks

-- a log: each fork splits a place that is there
abbrev pub IsLog : List ℕ → Type 0
IsLog forks = AreThere 1 forks

-- the place of a name, which is the number of places where no place has it
abbrev pub place_in : List Name → Name → ℕ
place_in [] p = 0
place_in (q ∷ names) p = if name_eq p q then 0 else place_in names p + 1

-- the log after a fork of the process with this name
abbrev pub forked : List ℕ → Name → List ℕ
forked forks p = forks ++ place_in (names_of forks) p ∷ []

-- ---- sets of places

-- a set after a fork: the new place is in it where the place that was split is
unfoldable pub with_fork : List Bool → ℕ → List Bool
with_fork set s = set ++ slice_index_or set s false ∷ []

-- a set after forks
unfoldable pub with_forks : List Bool → List ℕ → List Bool
with_forks set [] = set
with_forks set (s ∷ forks) = with_forks (with_fork set s) forks

-- a set of the places that there were before the forks that came later, at the end of the log
unfoldable pub at_end : List ℕ → List Bool → List Bool
at_end forks set = with_forks (take (length forks + 1) set) (drop (length set - 1) forks)

-- the names at the places of a set
unfoldable pub picked : List Bool → List Name → List Name
picked [] names = []
picked (b ∷ set) [] = []
picked (true ∷ set) (p ∷ names) = p ∷ picked set names
picked (false ∷ set) (p ∷ names) = picked set names

-- the names for which a label stands under a log, in the order of names
abbrev pub stands_for : List ℕ → List Bool → List Name
stands_for forks set = join (picked (at_end forks set) (names_of forks)) []

-- the label was made under the log, or before its last forks
abbrev pub IsUnder : List ℕ → List Bool → Type 0
IsUnder forks set = (0 < length set) × (length set ≤ length forks + 1)

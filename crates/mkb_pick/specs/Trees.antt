-- Trees of numbers, which stand in runs.
use Rattle.std.specs.Prelude.{ℕ, ◌+◌, ◌⊎◌, List, [], ◌++◌}
use Rattle.mkb_pick.specs.declared.run.Run.{Run}
use Rattle.mkb_pick.specs.declared.tree.Tree.{Tree, Leaf, Fork'}
use Rattle.mkb_pick.specs.Runs.{Precedes, Holds, IsFilled, size}

-- the number stands in the tree
abbrev pub HasKey : Tree → ℕ → Type 0
HasKey Leaf k = ⊥
HasKey (Fork' p left run priority right) k = Holds run k ⊎ (HasKey left k ⊎ HasKey right k)

-- what stands on the left is less than each number of the run
abbrev pub IsBehind : Tree → Run → Type 0
IsBehind left run = (k m : ℕ) → HasKey left k → Holds run m → Precedes k m

-- what stands on the right is greater than each number of the run
abbrev pub IsAhead : Run → Tree → Type 0
IsAhead run right = (k m : ℕ) → Holds run k → HasKey right m → Precedes k m

-- what stands in the first tree is less than what stands in the second
abbrev pub IsApart : Tree → Tree → Type 0
IsApart left right = (k m : ℕ) → HasKey left k → HasKey right m → Precedes k m

-- each node has a run; what stands on its left is less, what stands on its right is greater
abbrev pub IsOrdered : Tree → Type 0
IsOrdered Leaf = Unit {0}
IsOrdered (Fork' p left run priority right) = IsBehind left run × IsAhead run right × IsApart left right × IsFilled run × IsOrdered left × IsOrdered right

-- how many numbers there are
abbrev pub count : Tree → ℕ
count Leaf = 0
count (Fork' p left run priority right) = count left + count right + size run

-- how many nodes there are
abbrev pub nodes : Tree → ℕ
nodes Leaf = 0
nodes (Fork' p left run priority right) = nodes left + nodes right + 1

-- the numbers, as they rise
abbrev pub keys : Tree → List ℕ
keys Leaf = []
keys (Fork' p left run priority right) = keys left ++ (run.keys.items ++ keys right)

-- the number stands under the top of the tree
abbrev pub IsUnder : Tree → ℕ → Type 0
IsUnder Leaf k = ⊥
IsUnder (Fork' p left run priority right) k = HasKey left k ⊎ HasKey right k

-- how many numbers there are under the top
abbrev pub count_under : Tree → ℕ
count_under Leaf = 0
count_under (Fork' p left run priority right) = count left + count right

-- Runs: numbers that rise.
use Rattle.std.specs.Prelude.{ℕ, ◌<◌, List, length, get_or, Contains}
use Rattle.mkb_pick.specs.declared.run.Run.{Run}

-- each number is greater than those before it
abbrev pub IsRising : List ℕ → Type 0
IsRising xs = (i j : ℕ) → i < j → j < length xs → get_or xs i 0 < get_or xs j 0

-- the first number is less
unfoldable pub Precedes : ℕ → ℕ → Type 0
Precedes k m = k < m

-- the number stands in the run
unfoldable pub Holds : Run → ℕ → Type 0
Holds run k = Contains run.keys.items k

-- how many numbers stand in the run
unfoldable pub size : Run → ℕ
size run = length run.keys.items

-- the numbers rise, and there is one
unfoldable pub IsFilled : Run → Type 0
IsFilled run = IsRising run.keys.items × (0 < length run.keys.items)

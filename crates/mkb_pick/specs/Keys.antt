-- Several numbers as one, ordered as they are.
use Rattle.std.specs.Prelude.{ℕ, ◌+◌, ◌*◌, ◌<◌, List, [], ◌∷◌}

-- the product of the bounds
abbrev pub room : List ℕ → ℕ
room [] = 1
room (b ∷ bs) = b * room bs

-- each number is below its bound, and there are as many
abbrev pub Fits : List ℕ → List ℕ → Type 0
Fits [] [] = Unit {0}
Fits [] (x ∷ xs) = ⊥
Fits (b ∷ bs) [] = ⊥
Fits (b ∷ bs) (x ∷ xs) = (x < b) × Fits bs xs

-- the numbers as one, in which the first weighs most
abbrev pub packed : List ℕ → List ℕ → ℕ
packed [] xs = 0
packed (b ∷ bs) [] = 0
packed (b ∷ bs) (x ∷ xs) = x * room bs + packed bs xs

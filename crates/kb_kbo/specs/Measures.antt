-- What the code computes of terms: weights and occurrences.
use Rattle.std.specs.Prelude.{ℕ, ◌≤◌, List}
use Rattle.kb_kbo.specs.KnuthBendix.{KboOrder}

-- the order of these weights and this precedence
abbrev pub order_of : List ℕ → List ℕ → KboOrder
order_of weights precedence = record { weights = weights; precedence = precedence }

-- a weight from 1 to 15
abbrev pub IsWeight : ℕ → Type 0
IsWeight n = (1 ≤ n) × (n ≤ 15)

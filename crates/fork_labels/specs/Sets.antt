-- Sets of places, packed into words of 64 bits, the lowest place in the lowest bit of the first word.
use Rattle.std.specs.Prelude.{ℕ, ◌/◌, ◌%◌, ◌<◌, ◌≤◌, ◌≡◌, List, [], ◌∷◌, Bool, true, false, ◌&&◌, ◌||◌, not, ◌==◌, slice_index, map}
use Rattle.std.specs.List.{range_with_len}
use Rattle.std.specs.Int.{bit_at}
use Rattle.fork_labels.specs.declared.place_set.Operation.{Operation}
use Rattle.fork_labels.specs.declared.place_set.Operation.TheVariants.{Join, Meet, Minus}

-- whether the words have a place
unfoldable pub has_place : List ℕ → ℕ → Bool
has_place words s = bit_at (slice_index words (s / 64)) (s % 64) == 1

-- the set of so many places that stands in the words
unfoldable pub set_in : List ℕ → ℕ → List Bool
set_in words n = map (has_place words) (range_with_len 0 n)

-- the words have none of the 1,024 places from the n-th on
abbrev pub IsClearFrom : List ℕ → ℕ → Type 0
IsClearFrom words n = (s : ℕ) → n ≤ s → s < 1024 → has_place words s ≡ false

-- whether a place is in what an operation makes of two sets
abbrev pub in_result : Operation → Bool → Bool → Bool
in_result Join b c = b || c
in_result Meet b c = b && c
in_result Minus b c = b && not c

-- what an operation makes of two sets of as many places
abbrev pub result_of : Operation → List Bool → List Bool → List Bool
result_of op [] cs = []
result_of op (b ∷ bs) [] = []
result_of op (b ∷ bs) (c ∷ cs) = in_result op b c ∷ result_of op bs cs

-- whether no place is in the set
abbrev pub none_in : List Bool → Bool
none_in [] = true
none_in (b ∷ bs) = not b && none_in bs

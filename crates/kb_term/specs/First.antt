-- The first member of a list with a property.
use Rattle.std.specs.Prelude.{◌≡◌, List, ◌∷◌, ◌++◌, Option, Some, None, All}

-- the first member of the list of which P holds; none where P holds of no member
abbrev pub IsFirst : {X : Type 0} → (X → Type 0) → List X → Option X → Type 0
IsFirst P xs None = All (λ y. ¬ P y) xs
IsFirst {X} P xs (Some x) = P x × (before : List X) × (after : List X) × (xs ≡ before ++ x ∷ after) × All (λ y. ¬ P y) before

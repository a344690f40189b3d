-- Values under their names.
use Rattle.std.specs.Prelude.{ℕ, List, Option, find, option_map}
use Rattle.std.specs.Str.{bytes_eq}

-- the first value of this name
abbrev pub named : {X : Type 0} → List (List ℕ × X) → List ℕ → Option X
named ms name = option_map (λ m. m.1) (find (λ m. bytes_eq m.0 name) ms)

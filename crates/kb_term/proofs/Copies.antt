-- A list that is copied member by member.
use Rattle.std.proofs.Common.{◌≡◌, refl, ap₂, List, [], ◌∷◌}
use Rattle.std.specs.Prelude.{map}
use Rattle.std.specs.List.{AllZip}

-- where v sees each copy as its source, it sees the lists alike
pub map_from_all_zip : {X Y : Type 0} (v : X → Y) (R : X → X → Type 0) (xs ys : List X) → AllZip R xs ys → ((x y : X) → R x y → v y ≡ v x) → map v ys ≡ map v xs
map_from_all_zip v R [] [] h k = refl
map_from_all_zip v R [] (y ∷ ys) h k = absurd h
map_from_all_zip v R (x ∷ xs) [] h k = absurd h
map_from_all_zip v R (x ∷ xs) (y ∷ ys) h k = ap₂ (λ a s. a ∷ s) (k x y h.0) (map_from_all_zip v R xs ys h.1 k)

-- What stays at the front of a list.
use Rattle.std.proofs.Common.{◌≡◌, ℕ, ◌≤◌, List, ◌++◌, length, length-append, take, refl, sym, ap, ◌∙◌, arith}
use Rattle.std.proofs.lemmas.List.{take-take, take_at}

-- a list that stands in front of what stands in front
pub front_of_front : (xs ys us zs : List ℕ) → us ≡ xs ++ ys → take (length us) zs ≡ us → take (length xs) zs ≡ xs
front_of_front xs ys us zs e front =
    let within : length xs ≤ length us = omega (arith, length-append xs ys, ap length e) in
    sym (take-take (length xs) (length us) zs within) ∙ ap (take (length xs)) (front ∙ e) ∙ take_at xs ys (length xs) refl

-- A test of what borrowed texts hold.
use Rattle.std.proofs.Common.{◌≡◌, ◌||◌, ap, refl, ℕ, Bool, List, [], ◌∷◌, map}
use Rattle.std.specs.List.{list_any}
use Rattle.std.specs.Borrow.{Bor}

pub any_of_texts : (test : List ℕ → Bool) (ws : List (Bor (List ℕ))) → list_any (λ w. test w.now) ws ≡ list_any test (map (λ w. w.now) ws)
any_of_texts test [] = refl
any_of_texts test (w ∷ ws) = ap (λ (b : Bool). test w.now || b) (any_of_texts test ws)

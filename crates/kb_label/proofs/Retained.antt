-- What stays of a list by a test that remembers something from item to item.
use Rattle.std.specs.Prelude.{List, [], ◌∷◌, Bool, true, false, cond, ◌≡◌, refl, length, filter}
use Rattle.std.specs.List.{items_where_true}
use Rattle.std.proofs.Common.{ap, ◌∙◌, arith}
use Rattle.std.specs.List.Retain.{ReturnsInTurn, IsFiltered}

module _ {X F : Type 0} (R : F → X → Bool → F → Type 0) (I : F → Type 0) (test : X → Bool) (h : (f : F) (x : X) (b : Bool) (g : F) → I f → R f x b g → (b ≡ test x) × I g) where
  first_kept : (x : X) (xs : List X) (bs : List Bool) (b : Bool) → b ≡ test x → items_where_true bs xs ≡ filter test xs → items_where_true (b ∷ bs) (x ∷ xs) ≡ filter test (x ∷ xs)
  first_kept x xs bs true e rest = ap (λ l. x ∷ l) rest ∙ ap (λ a. cond a (x ∷ filter test xs) (filter test xs)) e
  first_kept x xs bs false e rest = rest ∙ ap (λ a. cond a (x ∷ filter test xs) (filter test xs)) e

  told : (f : F) (bs : List Bool) (xs : List X) (q : F) → I f → length bs ≡ length xs → ReturnsInTurn R f bs xs q → items_where_true bs xs ≡ filter test xs
  told f [] [] q i e t = refl
  told f [] (x ∷ xs) q i e t = absurd (omega arith)
  told f (b ∷ bs) [] q i e t = absurd t
  told f (b ∷ bs) (x ∷ xs) q i e t =
      let one = h f x b t.0 i t.1 in
      first_kept x xs bs b one.0 (told t.0 bs xs q one.1 (omega arith) t.2)

  -- the test answers alike as long as what it rests on stays, so what stays of the list are the items that pass it
  pub filtered_under : (f : F) (xs ys : List X) → I f → IsFiltered R f xs ys → ys ≡ filter test xs
  filtered_under f xs ys i k = k.4 ∙ told f k.0 xs k.1 i k.2 k.3

-- Several numbers as one: those that are below their bounds are ordered as it is.
use Rattle.std.proofs.Common.{ℕ, ◌≡◌, ◌<◌, ◌≤◌, ◌+◌, ◌*◌, refl, sym, ap, ap₂, ◌∙◌, inl, inr, List, [], ◌∷◌, arith}
use Rattle.std.proofs.Math.Nat.{mul-le-mul_right}
use Rattle.std.proofs.lemmas.Bool.{cases_order}
use Rattle.std.specs.Ordering.{nat_cmp, ordering_then}
use Rattle.std.specs.Cmp.{nat_cmp_is, nat_cmp_total, tied_itself}
use Rattle.std.specs.Cmp.Lexicographic.{slice_cmp}
use Rattle.std.specs.declared.cmp.Ordering.TheVariants.{Less, Equal, Greater}
use Rattle.mkb_pick.specs.Keys.{room, Fits, packed}
use Rattle.mkb_pick.specs.Tasks.{task_bounds}

-- of two numbers the one whose part in front is less is less
front_less : (x y room r s : ℕ) → x < y → r < room → x * room + r < y * room + s
front_less x y room r s less within =
    let step : (x + 1) * room ≤ y * room = mul-le-mul_right room (omega (arith, less)) in
    let next : (x + 1) * room ≡ x * room + room = omega arith in
    omega (arith, step, next, within)

-- the number is below the product of the bounds
pub packed_below : (bs xs : List ℕ) → Fits bs xs → packed bs xs < room bs
packed_below [] [] h = omega arith
packed_below [] (x ∷ xs) h = absurd h
packed_below (b ∷ bs) [] h = absurd h
packed_below (b ∷ bs) (x ∷ xs) h = omega (arith, front_less x b (room bs) (packed bs xs) 0 h.0 (packed_below bs xs h.1))

-- its order is that of the numbers, from the first one on
pub packed_order : (bs xs ys : List ℕ) → Fits bs xs → Fits bs ys → slice_cmp nat_cmp xs ys ≡ nat_cmp (packed bs xs) (packed bs ys)
packed_order [] [] [] f g = refl
packed_order [] [] (y ∷ ys) f g = absurd g
packed_order [] (x ∷ xs) ys f g = absurd f
packed_order (b ∷ bs) [] ys f g = absurd f
packed_order (b ∷ bs) (x ∷ xs) [] f g = absurd g
packed_order (b ∷ bs) (x ∷ xs) (y ∷ ys) f g =
    let rest = packed_order bs xs ys f.1 g.1 in
    elim (cases_order x y) [
      | inl same ↦
          let tied : nat_cmp x y ≡ Equal = ap (nat_cmp x) (sym same) ∙ tied_itself nat_cmp_total x in
          ap (λ o. ordering_then o (slice_cmp nat_cmp xs ys)) tied ∙ rest ∙ behind x y (room bs) (packed bs xs) (packed bs ys) same
      | inr apart ↦
          elim apart [
            | inl less ↦
                ap (λ o. ordering_then o (slice_cmp nat_cmp xs ys)) (sym (nat_cmp_is x y Less less))
                ∙ nat_cmp_is _ _ Less (front_less x y (room bs) (packed bs xs) (packed bs ys) less (packed_below bs xs f.1))
            | inr more ↦
                ap (λ o. ordering_then o (slice_cmp nat_cmp xs ys)) (sym (nat_cmp_is x y Greater more))
                ∙ nat_cmp_is _ _ Greater (front_less y x (room bs) (packed bs ys) (packed bs xs) more (packed_below bs ys g.1))
          ]
    ]
  where
    behind : (x y room r s : ℕ) → x ≡ y → nat_cmp r s ≡ nat_cmp (x * room + r) (y * room + s)
    behind x y room r s same =
        elim (cases_order r s) [
          | inl e ↦ let front : x * room + r ≡ y * room + s = ap₂ (λ a c. a * room + c) same e in (ap (nat_cmp r) (sym e) ∙ tied_itself nat_cmp_total r) ∙ sym (ap (nat_cmp (x * room + r)) (sym front) ∙ tied_itself nat_cmp_total (x * room + r))
          | inr apart ↦
              elim apart [
                | inl less ↦ sym (nat_cmp_is r s Less less) ∙ nat_cmp_is _ _ Less (shifted x y room r s same less)
                | inr more ↦ sym (nat_cmp_is r s Greater more) ∙ nat_cmp_is _ _ Greater (shifted y x room s r (sym same) more)
              ]
        ]
      where
        shifted : (x y room r s : ℕ) → x ≡ y → r < s → x * room + r < y * room + s
        shifted x y room r s same less = let front : x * room ≡ y * room = ap (λ a. a * room) same in omega (arith, front, less)

-- the keys of two tasks are ordered as their numbers are
pub keys_order : (xs ys : List ℕ) (k m : ℕ) → Fits task_bounds xs × (k ≡ packed task_bounds xs) → Fits task_bounds ys × (m ≡ packed task_bounds ys) → slice_cmp nat_cmp xs ys ≡ nat_cmp k m
keys_order xs ys k m f g = packed_order task_bounds xs ys f.0 g.0 ∙ ap₂ nat_cmp (sym f.1) (sym g.1)

-- Elements of lists by their places.
use Rattle.std.proofs.Common.{ℕ, zero, suc, ◌≡◌, ◌<◌, ◌⊎◌, inl, inr, Bool, true, false, List, [], ◌∷◌, ◌++◌, length, set, Some, refl, ap, arith}
use Rattle.std.specs.Prelude.{slice_get, nat_lt, nat_eq}
use Rattle.std.proofs.lemmas.Bool.Decides.{nat_tests}

module _ {A : Type 0} where
  pub get_left : (xs ys : List A) (i : ℕ) → i < length xs → slice_get (xs ++ ys) i ≡ slice_get xs i
  get_left [] ys i h = absurd (omega (arith, h))
  get_left (x ∷ xs) ys zero h = refl
  get_left (x ∷ xs) ys (suc i) h = get_left xs ys i (omega (arith, h))

  pub get_end : (xs : List A) (y : A) (ys : List A) → slice_get (xs ++ y ∷ ys) (length xs) ≡ Some y
  get_end [] y ys = refl
  get_end (x ∷ xs) y ys = get_end xs y ys

  pub get_set_same : (xs : List A) (i : ℕ) (v : A) → i < length xs → slice_get (set xs i v) i ≡ Some v
  get_set_same [] i v h = absurd (omega (arith, h))
  get_set_same (x ∷ xs) zero v h = refl
  get_set_same (x ∷ xs) (suc i) v h = get_set_same xs i v (omega (arith, h))

  pub get_set_other : (xs : List A) (i j : ℕ) (v : A) → (i ≡ j → ⊥) → slice_get (set xs i v) j ≡ slice_get xs j
  get_set_other [] i j v d = refl
  get_set_other (x ∷ xs) zero zero v d = absurd (d refl)
  get_set_other (x ∷ xs) zero (suc j) v d = refl
  get_set_other (x ∷ xs) (suc i) zero v d = refl
  get_set_other (x ∷ xs) (suc i) (suc j) v d = get_set_other xs i j v (λ e. d (ap suc e))

pub same_or_not : (m n : ℕ) → (m ≡ n) ⊎ (m ≡ n → ⊥)
same_or_not m n = go (nat_eq m n) refl
  where
    go : (b : Bool) → nat_eq m n ≡ b → (m ≡ n) ⊎ (m ≡ n → ⊥)
    go true e = inl (grind (arith, nat_tests))
    go false e = inr (λ g. grind (arith, nat_tests))

pub less_or_not : (m n : ℕ) → (m < n) ⊎ (m < n → ⊥)
less_or_not m n = go (nat_lt m n) refl
  where
    go : (b : Bool) → nat_lt m n ≡ b → (m < n) ⊎ (m < n → ⊥)
    go true e = inl (grind (arith, nat_tests))
    go false e = inr (λ g. grind (arith, nat_tests))

-- Searches from a place of a list on, and over the numbers of nodes, node by node.
use Rattle.std.proofs.Common.{ℕ, zero, suc, ◌+◌, ◌-◌, ◌<◌, ◌≡◌, refl, sym, ap, ap₂, ◌∙◌, arith, List, [], ◌∷◌, filter, length, drop, get_or, Bool, true, false, cond, ◌&&◌, ◌||◌}
use Rattle.std.specs.List.{list_any}
use Rattle.mkb_model.specs.Plain.{numbers_from}

-- ---- places and numbers

-- the list from number n on begins with the one of that number
pub drop_at : {A : Type 0} (l : List A) (n : ℕ) (p d : A) → n < length l → p ≡ get_or l n d → drop n l ≡ p ∷ drop (n + 1) l
drop_at [] n p d h e = absurd (omega (arith, h))
drop_at {A = A} (q ∷ l) zero p d h e = ap (λ (z : A). z ∷ l) (sym e)
drop_at (q ∷ l) (suc n) p d h e =
    let k : suc n + 1 ≡ suc (n + 1) = omega arith in
    drop_at l n p d (omega (arith, h)) e ∙ ap (λ (m : ℕ). p ∷ drop m (q ∷ l)) (sym k)

pub numbers_step : (n len : ℕ) → n < len → numbers_from n (len - n) ≡ n ∷ numbers_from (n + 1) (len - (n + 1))
numbers_step n len h = let e : len - n ≡ suc (len - (n + 1)) = omega arith in ap (numbers_from n) e

-- ---- whether any passes

pub any_alike : {A : Type 0} (q e : A → Bool) (xs : List A) → ((x : A) → q x ≡ e x) → list_any q xs ≡ list_any e xs
any_alike q e [] same = refl
any_alike q e (x ∷ xs) same = ap₂ (λ s t. s || t) (same x) (any_alike q e xs same)

pub any_filter : {A : Type 0} (t s : A → Bool) (xs : List A) → list_any t (filter s xs) ≡ list_any (λ x. s x && t x) xs
any_filter t s [] = refl
any_filter t s (x ∷ xs) = go (s x) (any_filter t s xs)
  where
    go : (b : Bool) → list_any t (filter s xs) ≡ list_any (λ x. s x && t x) xs → list_any t (cond b (x ∷ filter s xs) (filter s xs)) ≡ ((b && t x) || list_any (λ x. s x && t x) xs)
    go true h = ap (λ z. t x || z) h
    go false h = h

-- ---- which numbers pass

pub filter_on : (e : ℕ → Bool) (n len : ℕ) → n < len → e n ≡ false → filter e (numbers_from n (len - n)) ≡ filter e (numbers_from (n + 1) (len - (n + 1)))
filter_on e n len h k = ap (filter e) (numbers_step n len h) ∙ ap (λ z. cond z (n ∷ filter e (numbers_from (n + 1) (len - (n + 1)))) (filter e (numbers_from (n + 1) (len - (n + 1))))) k

-- The entries of one worker, and beginnings of a history.
use Rattle.std.proofs.Common.{◌≡◌, ◌≢◌, ℕ, zero, suc, ◌+◌, ◌*◌, ◌/◌, ◌<◌, ◌≤◌, ◌⊎◌, List, [], ◌∷◌, ◌++◌, length, All, refl, ap, sym, ◌∙◌, subst, ⊎_elim, inl, inr, arith, append_assoc, length-append, ne_eqb, set}
use Rattle.std.proofs.lemmas.List.{append-nil}
use Rattle.std.proofs.lemmas.List.Elements.{filter-append, All-append}
use mathlib.Core.Option.{some, some-injective, some-ne-none}
use lib.ListN.{get_elem?}
use Rattle.turn_lock.specs.Turn.{StartsWith, own, IsFrom}

-- an even word and the odd one after it stand for one number
pub half_of : (r n : ℕ) → (r ≡ 2 * n) ⊎ (r ≡ 2 * n + 1) → r / 2 ≡ n
half_of r n e = ⊎_elim (λ (t : r ≡ 2 * n). omega arith) (λ (t : r ≡ 2 * n + 1). omega arith) e

module _ {X : Type 0} where
  pub all_head : (P : X → Type 0) (x : X) (xs : List X) → All P (x ∷ xs) → P x
  all_head P x xs a = a 0 x (omega arith)

  pub all_tail : (P : X → Type 0) (x : X) (xs : List X) → All P (x ∷ xs) → All P xs
  all_tail P x xs a k d l = a (suc k) d (omega arith)

  pub all_one : (P : X → Type 0) (x : X) → P x → All P (x ∷ [])
  all_one P x p zero d l = p
  all_one P x p (suc k) d l = absurd (omega arith)

  pub starts_self : (xs : List X) → StartsWith xs xs
  starts_self xs = ([], sym (append-nil xs))

  pub starts_more : (xs more ys : List X) → StartsWith xs ys → StartsWith (xs ++ more) ys
  starts_more xs more ys s = (s.0 ++ more, ap (λ l. l ++ more) s.1 ∙ append_assoc ys s.0 more)

  pub starts_length : (xs ys : List X) → StartsWith xs ys → length ys ≤ length xs
  starts_length xs ys s = omega (arith, ap length s.1 ∙ length-append ys s.0)

  pub front_empty : (xs ys : List X) → xs ++ ys ≡ [] → xs ≡ []
  front_empty [] ys e = refl
  front_empty (x ∷ xs) ys e = absurd (cc e)

  -- the last place of a list, or an earlier one
  pub at_end : (l : List X) (a b : X) (j : ℕ) → get_elem? (l ++ a ∷ []) j ≡ some b → (get_elem? l j ≡ some b) ⊎ ((j ≡ length l) × (a ≡ b))
  at_end [] a b zero e = inr (refl, some-injective a b e)
  at_end [] a b (suc j) e = absurd (some-ne-none b (sym e))
  at_end (x ∷ xs) a b zero e = inl e
  at_end (x ∷ xs) a b (suc j) e = ⊎_elim (λ t. inl t) (λ t. inr (ap suc t.0, t.1)) (at_end xs a b j e)

  pub set_there : (l : List X) (i : ℕ) (a b : X) → get_elem? l i ≡ some a → get_elem? (set l i b) i ≡ some b
  set_there [] i a b e = absurd (some-ne-none a (sym e))
  set_there (x ∷ xs) zero a b e = refl
  set_there (x ∷ xs) (suc i) a b e = set_there xs i a b e

module _ {E : Type 0} (worker : E → ℕ) where
  -- what one worker made is of no other
  pub others_none : (w u : ℕ) (es : List E) → IsFrom worker w es → 0 < u → u ≢ w → own worker u es ≡ []
  others_none w u [] f pos ne = refl
  others_none w u (e ∷ es) f pos ne =
      let not : worker e ≢ u = λ same. ⊎_elim (λ (a : worker e ≡ w). ne (sym same ∙ a)) (λ (a : worker e ≡ 0). omega arith) (all_head (λ x. (worker x ≡ w) ⊎ (worker x ≡ 0)) e es f) in
      rw (ne_eqb (worker e) u not) (others_none w u es (all_tail (λ x. (worker x ≡ w) ⊎ (worker x ≡ 0)) e es f) pos ne)

  pub own_others : (w u : ℕ) (log more : List E) → IsFrom worker w more → 0 < u → u ≢ w → own worker u (log ++ more) ≡ own worker u log
  own_others w u log more f pos ne = filter-append _ log more ∙ (ap (λ l. own worker u log ++ l) (others_none w u more f pos ne) ∙ append-nil (own worker u log))

  -- a number that was not drawn has no entry
  pub own_beyond : (d u : ℕ) (es : List E) → All (λ e. worker e ≤ d) es → d < u → own worker u es ≡ []
  own_beyond d u [] a l = refl
  own_beyond d u (e ∷ es) a l =
      let low : worker e ≤ d = all_head (λ e. worker e ≤ d) e es a in
      rw (ne_eqb (worker e) u (λ same. omega arith)) (own_beyond d u es (all_tail (λ e. worker e ≤ d) e es a) l)

  pub numbered_more : (d w : ℕ) (log more : List E) → All (λ e. worker e ≤ d) log → IsFrom worker w more → w ≤ d → All (λ e. worker e ≤ d) (log ++ more)
  numbered_more d w log more a f le = All-append (λ e. worker e ≤ d) log more a
      (λ k x l. ⊎_elim (λ (t : _ ≡ w). subst (λ (n : ℕ). n ≤ d) (sym t) le) (λ (t : _ ≡ 0). subst (λ (n : ℕ). n ≤ d) (sym t) (omega arith)) (f k x l))

  pub own_beyond_front : (d u : ℕ) (log es : List E) → All (λ e. worker e ≤ d) log → d < u → StartsWith log es → own worker u es ≡ []
  own_beyond_front d u log es a l s = front_empty (own worker u es) (own worker u s.0) (sym (filter-append _ es s.0) ∙ (ap (own worker u) (sym s.1) ∙ own_beyond d u log a l))

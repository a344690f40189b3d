-- Chains of any relation.
use Rattle.std.proofs.Common.{ℕ, zero, suc, ◌≡◌, ◌≤◌, refl, sym, subst, le_of_suc-le-suc, suc-le-suc, zero-le, not-suc-le-zero}
use Rattle.kb_term.proofs.Relation.{Steps, Reaches, IsJoinable, Halts}

-- no chain from s has more than n steps
abbrev pub Bounded : {A : Type 0} (R : A → A → Type 0) → ℕ → A → Type 0
Bounded {A} R zero s = (t : A) → R s t → ⊥
Bounded {A} R (suc n) s = (t : A) → R s t → Bounded R n t

pub bounded_from : {A : Type 0} (R : A → A → Type 0) (n : ℕ) (s : A) → ((k : ℕ) (t : A) → Steps R k s t → k ≤ n) → Bounded R n s
bounded_from R zero s h = λ t r. not-suc-le-zero (h 1 t (t, r, refl))
bounded_from R (suc n) s h = λ t r. bounded_from R n t (λ k u c. le_of_suc-le-suc (h (suc k) u (t, r, c)))

pub bounded_to : {A : Type 0} (R : A → A → Type 0) (n : ℕ) (s : A) → Bounded R n s → (k : ℕ) (t : A) → Steps R k s t → k ≤ n
bounded_to R n s b zero t c = zero-le
bounded_to R zero s b (suc k) t c = absurd (b c.0 c.1)
bounded_to R (suc n) s b (suc k) t c = suc-le-suc (bounded_to R n c.0 (b c.0 c.1) k t c.2)

pub halts_from_bounded : {A : Type 0} (R : A → A → Type 0) (n : ℕ) (s : A) → Bounded R n s → Halts R s
halts_from_bounded R n s b = (n, bounded_to R n s b)

pub bounded_more : {A : Type 0} (R : A → A → Type 0) (n m : ℕ) (s : A) → Bounded R n s → n ≤ m → Bounded R m s
bounded_more R zero zero s b h = b
bounded_more R zero (suc m) s b h = λ t r. absurd (b t r)
bounded_more R (suc n) zero s b h = absurd (not-suc-le-zero h)
bounded_more R (suc n) (suc m) s b h = λ t r. bounded_more R n m t (b t r) (le_of_suc-le-suc h)

pub reaches_refl : {A : Type 0} (R : A → A → Type 0) (s : A) → Reaches R s s
reaches_refl R s = (0, refl)

pub reaches_eq : {A : Type 0} (R : A → A → Type 0) (s t : A) → s ≡ t → Reaches R s t
reaches_eq R s t e = (0, e)

pub reaches_step : {A : Type 0} (R : A → A → Type 0) (s t u : A) → R s t → Reaches R t u → Reaches R s u
reaches_step R s t u r c = (suc c.0, (t, r, c.1))

pub reaches_one : {A : Type 0} (R : A → A → Type 0) (s t : A) → R s t → Reaches R s t
reaches_one R s t r = reaches_step R s t t r (reaches_refl R t)

pub steps_then : {A : Type 0} (R : A → A → Type 0) (n : ℕ) (s t u : A) → Steps R n s t → Reaches R t u → Reaches R s u
steps_then R zero s t u e c = subst (λ x. Reaches R x u) (sym e) c
steps_then R (suc n) s t u h c = reaches_step R s h.0 u h.1 (steps_then R n h.0 t u h.2 c)

pub reaches_trans : {A : Type 0} (R : A → A → Type 0) (s t u : A) → Reaches R s t → Reaches R t u → Reaches R s u
reaches_trans R s t u p q = steps_then R p.0 s t u p.1 q

-- a map that takes steps to chains takes chains to chains
pub steps_map : {A B : Type 0} (R : A → A → Type 0) (S : B → B → Type 0) (f : A → B) → ((s t : A) → R s t → Reaches S (f s) (f t)) → (n : ℕ) (s t : A) → Steps R n s t → Reaches S (f s) (f t)
steps_map R S f each zero s t e = subst (λ x. Reaches S (f s) (f x)) e (reaches_refl S (f s))
steps_map R S f each (suc n) s t h = reaches_trans S (f s) (f h.0) (f t) (each s h.0 h.1) (steps_map R S f each n h.0 t h.2)

pub reaches_map : {A B : Type 0} (R : A → A → Type 0) (S : B → B → Type 0) (f : A → B) → ((s t : A) → R s t → Reaches S (f s) (f t)) → (s t : A) → Reaches R s t → Reaches S (f s) (f t)
reaches_map R S f each s t p = steps_map R S f each p.0 s t p.1

-- what each step keeps, chains keep
pub steps_keep : {A : Type 0} (R : A → A → Type 0) (P : A → Type 0) → ((s t : A) → P s → R s t → P t) → (n : ℕ) (s t : A) → P s → Steps R n s t → P t
steps_keep R P kept zero s t p e = subst P e p
steps_keep R P kept (suc n) s t p h = steps_keep R P kept n h.0 t (kept s h.0 p h.1) h.2

pub joinable_sym : {A : Type 0} (R : A → A → Type 0) (s t : A) → IsJoinable R s t → IsJoinable R t s
joinable_sym R s t j = (j.0, j.2, j.1)

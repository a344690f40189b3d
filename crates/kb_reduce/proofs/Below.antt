-- Confluence of a relation whose steps are chains of a confluent one, and that joins each step of it.
use Rattle.std.proofs.Common.{ℕ, zero, suc, arith, subst, sym}
use Rattle.kb_term.proofs.Relation.{Steps, Reaches, IsJoinable, IsConfluentAt}
use Rattle.kb_term.proofs.Chains.{Bounded, bounded_more, reaches_refl, reaches_step, reaches_trans}
use Rattle.kb_laws.proofs.RunLaws.{Chain}

module _ {A : Type 0} (R T : A → A → Type 0) where
  -- what a bound says of a thing it says of each that a step leads to
  bounded_next : (n : ℕ) (s t : A) → Bounded R n s → R s t → Bounded R n t
  bounded_next zero s t b r = absurd (b t r)
  bounded_next (suc n) s t b r = bounded_more R n (suc n) t (b t r) (omega arith)

  bounded_steps : (n k : ℕ) (s t : A) → Bounded R n s → Steps R k s t → Bounded R n t
  bounded_steps n zero s t b e = subst (Bounded R n) e b
  bounded_steps n (suc k) s t b (u, r, c) = bounded_steps n k u t (bounded_next n s u b r) c

  -- one or more steps lead to a thing with a lesser bound
  pub bounded_chain : (n : ℕ) (s t : A) → Bounded R (suc n) s → Chain R s t → Bounded R n t
  bounded_chain n s t b (u, r, c) = bounded_steps n c.0 u t (b u r) c.1

  chain_more : (s t u : A) → Chain R s t → Reaches R t u → Chain R s u
  chain_more s t u (v, r, c) d = (v, r, reaches_trans R v t u c d)

  -- what is joined by a chain of steps each of which is joined, below a thing below which all are confluent
  joined_below : (s : A) → ((x y : A) → R x y → IsJoinable T x y) → ((x : A) → Chain R s x → IsConfluentAt T x) → (k : ℕ) (x w : A) → Chain R s x → Steps R k x w → IsJoinable T x w
  joined_below s joins conf zero x w c e = (x, reaches_refl T x, subst (λ y. Reaches T y x) e (reaches_refl T x))
  joined_below s joins conf (suc k) x w c (y, r, h) =
      let one = joins x y r in
      let below : Chain R s y = chain_more s x y c (reaches_step R x y y r (reaches_refl R y)) in
      let rest = joined_below s joins conf k y w below h in
      let both = conf y below one.0 rest.0 one.2 rest.1 in
      (both.0, reaches_trans T x one.0 both.0 one.1 both.1, reaches_trans T w rest.0 both.0 rest.2 both.2)

  -- confluence, for the things with a property that steps keep
  pub connected : (P : A → Type 0) → ((s t : A) → P s → R s t → P t)
      → ((s t : A) → T s t → Chain R s t) → ((x y : A) → R x y → IsJoinable T x y) → ((s : A) → P s → IsConfluentAt R s)
      → (n : ℕ) (s : A) → P s → Bounded R n s → IsConfluentAt T s
  connected P kept chains joins conf n s p b t u (zero, e) q = (u, subst (λ x. Reaches T x u) e q, reaches_refl T u)
  connected P kept chains joins conf n s p b t u (suc i, h) (zero, e) = (t, reaches_refl T t, subst (λ x. Reaches T x t) e (suc i, h))
  connected P kept chains joins conf zero s p b t u (suc i, h) (suc j, k) = let c = chains s h.0 h.1 in absurd (b c.0 c.1)
  connected P kept chains joins conf (suc n) s p b t u (suc i, h) (suc j, k) =
      let below : (x : A) → Chain R s x → IsConfluentAt T x = λ x c. connected P kept chains joins conf n x (keeps c.2.0 c.0 x (kept s c.0 p c.1) c.2.1) (bounded_chain n s x b c) in
      let left = chains s h.0 h.1 in
      let right = chains s k.0 k.1 in
      let w = conf s p h.0 k.0 (reaches_step R s left.0 h.0 left.1 left.2) (reaches_step R s right.0 k.0 right.1 right.2) in
      let one = joined_below s joins below w.1.0 h.0 w.0 left w.1.1 in
      let other = joined_below s joins below w.2.0 k.0 w.0 right w.2.1 in
      let top = below w.0 (chain_more s h.0 w.0 left w.1) one.0 other.0 one.2 other.2 in
      let first = below h.0 left t top.0 (i, h.2) (reaches_trans T h.0 one.0 top.0 one.1 top.1) in
      let last = below k.0 right first.0 u (reaches_trans T k.0 top.0 first.0 (reaches_trans T k.0 other.0 top.0 other.1 top.2) first.2) (j, k.2) in
      (last.0, reaches_trans T t first.0 last.0 first.1 last.1, last.2)
    where
      keeps : (m : ℕ) (x y : A) → P x → Steps R m x y → P y
      keeps zero x y q e = subst P e q
      keeps (suc m) x y q (z, r, c) = keeps m z y (kept x z q r) c

  -- a normal form of the one is reached by the other too, where it has a step wherever the one has
  pub normal_reached : (P : A → Type 0) → ((s t : A) → P s → R s t → P t)
      → ((s t : A) → T s t → Chain R s t) → ((s t : A) → R s t → (u : A) × T s u) → ((s : A) → P s → IsConfluentAt R s)
      → (w : A) → ((u : A) → ¬ R w u) → (n : ℕ) (s : A) → P s → Bounded R n s → Reaches R s w → Reaches T s w
  normal_reached P kept chains has conf w normal n s p b (zero, e) = (0, e)
  normal_reached P kept chains has conf w normal zero s p b (suc k, h) = absurd (b h.0 h.1)
  normal_reached P kept chains has conf w normal (suc n) s p b (suc k, h) =
      let t = has s h.0 h.1 in
      let c = chains s t.0 t.1 in
      let j = conf s p t.0 w (reaches_step R s c.0 t.0 c.1 c.2) (suc k, h) in
      let on : Reaches R t.0 w = stays j.0 j.2 j.1 in
      reaches_step T s t.0 w t.1 (normal_reached P kept chains has conf w normal n t.0 (keeps c.2.0 c.0 t.0 (kept s c.0 p c.1) c.2.1) (bounded_chain n s t.0 b c) on)
    where
      keeps : (m : ℕ) (x y : A) → P x → Steps R m x y → P y
      keeps zero x y q e = subst P e q
      keeps (suc m) x y q (z, r, d) = keeps m z y (kept x z q r) d

      stays : (z : A) → Reaches R w z → {t : A} → Reaches R t z → Reaches R t w
      stays z (zero, e) {t} c = subst (Reaches R t) (sym e) c
      stays z (suc m, (v, r, d)) c = absurd (normal v r)

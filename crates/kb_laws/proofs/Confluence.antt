-- Newman's lemma and the Church-Rosser theorem for any relation.
use Rattle.std.proofs.Common.{ℕ, zero, suc, inl, inr, subst}
use Rattle.kb_term.proofs.Relation.{Steps, Reaches, IsJoinable, IsConfluentAt, EitherWay}
use Rattle.kb_term.proofs.Chains.{Bounded, reaches_refl, reaches_eq, reaches_step, reaches_one, reaches_trans}

-- from a bound and local confluence to confluence, for the things that have a property which steps keep
pub newman : {A : Type 0} (R : A → A → Type 0) (P : A → Type 0)
    → ((s t : A) → P s → R s t → P t)
    → ((s t u : A) → P s → R s t → R s u → IsJoinable R t u)
    → (n : ℕ) (s : A) → P s → Bounded R n s → IsConfluentAt R s
newman R P kept local n s p b t u (zero, e) q = (u, subst (λ x. Reaches R x u) e q, reaches_refl R u)
newman R P kept local n s p b t u (suc i, h) (zero, e) = (t, reaches_refl R t, subst (λ x. Reaches R x t) e (suc i, h))
newman R P kept local zero s p b t u (suc i, h) (suc j, k) = absurd (b h.0 h.1)
newman R P kept local (suc n) s p b t u (suc i, h) (suc j, k) =
    let v = local s h.0 k.0 p h.1 k.1 in
    let w = newman R P kept local n h.0 (kept s h.0 p h.1) (b h.0 h.1) t v.0 (i, h.2) v.1 in
    let x = newman R P kept local n k.0 (kept s k.0 p k.1) (b k.0 k.1) w.0 u (reaches_trans R k.0 v.0 w.0 v.2 w.2) (j, k.2) in
    (x.0, reaches_trans R t w.0 x.0 w.1 x.1, x.2)

-- a step in either direction between things that have a property
abbrev pub Within : {A : Type 0} (P : A → Type 0) (R : A → A → Type 0) → A → A → Type 0
Within P R s t = P t × EitherWay R s t

-- where each thing with the property is confluent, what converts is joinable
pub church_rosser : {A : Type 0} (R : A → A → Type 0) (P : A → Type 0)
    → ((s : A) → P s → IsConfluentAt R s)
    → (n : ℕ) (s t : A) → P s → Steps (Within P R) n s t → IsJoinable R s t
church_rosser R P conf zero s t p e = (t, reaches_eq R s t e, reaches_refl R t)
church_rosser R P conf (suc n) s t p (u, w, c) =
    let j = church_rosser R P conf n u t w.0 c in
    go (w.1) j
  where
    go : EitherWay R s u → IsJoinable R u t → IsJoinable R s t
    go (inl r) j = (j.0, reaches_step R s u j.0 r j.1, j.2)
    go (inr r) j =
        let k = conf u w.0 s j.0 (reaches_one R u s r) j.1 in
        (k.0, k.1, reaches_trans R t j.0 k.0 j.2 k.2)

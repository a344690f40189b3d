-- Lists of names in their order.
use Rattle.std.specs.Prelude.{ℕ, List, [], ◌∷◌, Bool, true, false, ◌||◌, not, cond, ◌≡◌, refl, filter, length, remove, suc}
use Rattle.std.proofs.Common.{ap, sym, ◌∙◌, subst}
use mathlib.Core.Bool.{true≢false}
use Rattle.std.specs.Cmp.{eq_by_cmp_equiv}
use Rattle.std.specs.Ordering.{ordering_reverse, is_eq}
use Rattle.std.specs.declared.cmp.Ordering.{Ordering}
use Rattle.std.specs.declared.cmp.Ordering.TheVariants.{Less, Equal, Greater}
use Rattle.kb_label.specs.Names.{Name, name_cmp, name_eq, has, by_order, add, join, minus, IsInNameOrder}
use Rattle.kb_label.specs.NameOrder.{bits_cmp-total, name_cmp-total, name_cmp-same, name_eq-by_cmp}
use Rattle.kb_label.proofs.Members.{name_eq-eq}

-- the other way round
pub turned : (p q : Name) → name_cmp p q ≡ Greater → name_cmp q p ≡ Less
turned p q h = name_cmp-total.antisymm q p ∙ ap ordering_reverse h

pub turned_back : (p q : Name) → name_cmp p q ≡ Less → name_cmp q p ≡ Greater
turned_back p q h = name_cmp-total.antisymm q p ∙ ap ordering_reverse h

pub rest : (p : Name) (l : List Name) → IsInNameOrder (p ∷ l) → IsInNameOrder l
rest p [] h = tt
rest p (q ∷ l) h = h.1

-- what comes before the first comes before the second
pub skip : (p q : Name) (l : List Name) → IsInNameOrder (p ∷ q ∷ l) → IsInNameOrder (p ∷ l)
skip p q [] h = tt
skip p q (r ∷ l) h = (name_cmp-total.trans p q r h.0 h.1.0, h.1.1)

-- a lesser name in front
pub lower : (p q : Name) (l : List Name) → name_cmp p q ≡ Less → IsInNameOrder (q ∷ l) → IsInNameOrder (p ∷ q ∷ l)
lower p q l h o = (h, o)

-- a name that comes before all is not among them
pub before-absent : (p : Name) (l : List Name) → IsInNameOrder (p ∷ l) → has l p ≡ false
before-absent p [] h = refl
before-absent p (q ∷ l) h =
    let e : name_eq p q ≡ false = name_eq-by_cmp p q ∙ ap is_eq h.0 in
    rw (e, before-absent p l (skip p q l h)) refl

-- ---- a name is put at its place

pub add-first : (p : Name) (l : List Name) → IsInNameOrder (p ∷ l) → add p l ≡ p ∷ l
add-first p [] h = refl
add-first p (q ∷ l) h = ap (λ o. by_order o (p ∷ q ∷ l) (q ∷ l) (q ∷ add p l)) h.0

pub add-same : (p : Name) (l : List Name) → add p (p ∷ l) ≡ p ∷ l
add-same p l = ap (λ o. by_order o (p ∷ p ∷ l) (p ∷ l) (p ∷ add p l)) (name_cmp-same p)

pub add-later : (p q : Name) (l : List Name) → name_cmp p q ≡ Greater → add p (q ∷ l) ≡ q ∷ add p l
add-later p q l h = ap (λ o. by_order o (p ∷ q ∷ l) (q ∷ l) (q ∷ add p l)) h

pub ordered-add_after : (p q : Name) (l : List Name) → name_cmp p q ≡ Less → IsInNameOrder (p ∷ l) → IsInNameOrder (p ∷ add q l)
ordered-add_after p q [] h o = (h, tt)
ordered-add_after p q (r ∷ l) h o = go (name_cmp q r) refl (λ e. ordered-add_after r q l e o.1)
  where
    go : (k : Ordering) → name_cmp q r ≡ k → (name_cmp r q ≡ Less → IsInNameOrder (r ∷ add q l)) → IsInNameOrder (p ∷ by_order k (q ∷ r ∷ l) (r ∷ l) (r ∷ add q l))
    go Less e ih = (h, (e, o.1))
    go Equal e ih = o
    go Greater e ih = (o.0, ih (turned q r e))

pub ordered-add : (q : Name) (l : List Name) → IsInNameOrder l → IsInNameOrder (add q l)
ordered-add q [] o = tt
ordered-add q (r ∷ l) o = go (name_cmp q r) refl
  where
    go : (k : Ordering) → name_cmp q r ≡ k → IsInNameOrder (by_order k (q ∷ r ∷ l) (r ∷ l) (r ∷ add q l))
    go Less e = (e, o)
    go Equal e = o
    go Greater e = ordered-add_after r q l (turned q r e) o

-- ---- the names that pass a test

ordered-filter_after : (f : Name → Bool) (p : Name) (l : List Name) → IsInNameOrder (p ∷ l) → IsInNameOrder (p ∷ filter f l)
ordered-filter_after f p [] o = tt
ordered-filter_after f p (q ∷ l) o = go (f q) (ordered-filter_after f q l o.1) (ordered-filter_after f p l (skip p q l o))
  where
    go : (b : Bool) → IsInNameOrder (q ∷ filter f l) → IsInNameOrder (p ∷ filter f l) → IsInNameOrder (p ∷ cond b (q ∷ filter f l) (filter f l))
    go true kept left = (o.0, kept)
    go false kept left = left

pub ordered-filter : (f : Name → Bool) (l : List Name) → IsInNameOrder l → IsInNameOrder (filter f l)
ordered-filter f [] o = tt
ordered-filter f (q ∷ l) o = go (f q) (ordered-filter f l (rest q l o))
  where
    go : (b : Bool) → IsInNameOrder (filter f l) → IsInNameOrder (cond b (q ∷ filter f l) (filter f l))
    go true left = ordered-filter_after f q l o
    go false left = left

-- all names but one
pub ordered-without : (p : Name) (l : List Name) → IsInNameOrder l → IsInNameOrder (minus l (p ∷ []))
ordered-without p l o = ordered-filter (λ q. not (has (p ∷ []) q)) l o

-- where taking out what stands at a place leaves all names but one
pub ordered-left : (p : Name) (l : List Name) (k : ℕ) (m : List Name) → IsInNameOrder l → m ≡ remove l k → remove l k ≡ minus l (p ∷ []) → IsInNameOrder m
ordered-left p l k m o e w = rw (e, w) (ordered-without p l o)

-- ---- the names of two lists

pub ordered-join_after : (p : Name) (l m : List Name) → IsInNameOrder (p ∷ l) → IsInNameOrder (p ∷ m) → IsInNameOrder (p ∷ join l m)
ordered-join_after p [] m o w = w
ordered-join_after p (q ∷ l) m o w = ordered-add_after p q (join l m) o.0 (ordered-join_after p l m (skip p q l o) w)

pub ordered-join : (l m : List Name) → IsInNameOrder m → IsInNameOrder (join l m)
ordered-join [] m o = o
ordered-join (q ∷ l) m o = ordered-add q (join l m) (ordered-join l m o)

-- ---- how many names there are

or_left : (a b : Bool) → (a || b) ≡ false → a ≡ false
or_left true b e = absurd (cc)
or_left false b e = refl

or_right : (a b : Bool) → (a || b) ≡ false → b ≡ false
or_right true b e = absurd (cc)
or_right false b e = e

name_eq-sym : (p q : Name) → name_eq p q ≡ name_eq q p
name_eq-sym p q = (eq_by_cmp_equiv bits_cmp-total).symm p q

pub length-add : (p : Name) (l : List Name) → has l p ≡ false → length (add p l) ≡ suc (length l)
length-add p [] h = refl
length-add p (q ∷ l) h = go (name_cmp p q) refl (length-add p l (or_right (name_eq p q) (has l p) h))
  where
    go : (k : Ordering) → name_cmp p q ≡ k → length (add p l) ≡ suc (length l) → length (by_order k (p ∷ q ∷ l) (q ∷ l) (q ∷ add p l)) ≡ suc (suc (length l))
    go Less e ih = refl
    go Equal e ih = absurd (true≢false (sym (name_eq-by_cmp p q ∙ ap is_eq e) ∙ or_left (name_eq p q) (has l p) h))
    go Greater e ih = ap suc ih

-- where p isn't named, taking it out changes nothing
pub minus-absent : (p : Name) (l : List Name) → has l p ≡ false → minus l (p ∷ []) ≡ l
minus-absent p [] h = refl
minus-absent p (q ∷ l) h = go (name_eq q p) (name_eq-sym q p ∙ or_left (name_eq p q) (has l p) h) (minus-absent p l (or_right (name_eq p q) (has l p) h))
  where
    go : (b : Bool) → b ≡ false → minus l (p ∷ []) ≡ l → cond (not (b || false)) (q ∷ minus l (p ∷ [])) (minus l (p ∷ [])) ≡ q ∷ l
    go true e ih = absurd (true≢false e)
    go false e ih = ap (q ∷◌) ih

pub length-without : (p : Name) (l : List Name) → IsInNameOrder l → has l p ≡ true → suc (length (minus l (p ∷ []))) ≡ length l
length-without p [] o h = absurd (true≢false (sym h))
length-without p (q ∷ l) o h = go (name_eq q p) refl (length-without p l (rest q l o))
  where
    go : (b : Bool) → name_eq q p ≡ b → (has l p ≡ true → suc (length (minus l (p ∷ []))) ≡ length l) → suc (length (cond (not (b || false)) (q ∷ minus l (p ∷ [])) (minus l (p ∷ [])))) ≡ suc (length l)
    go true e ih =
        let same : q ≡ p = name_eq-eq q p e in
        ap (λ m. suc (length m)) (minus-absent p l (before-absent p l (subst (λ r. IsInNameOrder (r ∷ l)) same o)))
    go false e ih = ap suc (ih (rw (name_eq-sym p q ∙ e) at h))

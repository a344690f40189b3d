-- Chains keep to their slots when a place comes and when the last one goes.
use Rattle.std.proofs.Common.{ℕ, ◌≡◌, ◌+◌, ◌<◌, ◌≤◌, List, [], ◌∷◌, ◌++◌, length, set, Some, refl, sym, ap, subst, ◌∙◌, arith, ⊎_elim, length-set}
use Rattle.std.proofs.lemmas.List.{map_push, length_push, length-map}
use Rattle.std.specs.Prelude.{slice_get}
use Rattle.std.proofs.lemmas.Option.{slice_get_within, same_Some}
use Rattle.kb_lemmas.proofs.Lists.{get_map}
use Rattle.kb_lemmas.proofs.Numbers.{below_or_at}
use Rattle.term_bank.specs.Chains.{slot_of, IsLink, AreHeads, hashes_of, IsChained}
use Rattle.term_bank.specs.declared.chains.Link.{Link}
use Rattle.term_bank.proofs.Places.{get_left, get_end, get_set_same, get_set_other, same_or_not, less_or_not}

module _ (slots : ℕ) (hashes : List ℕ) where
  -- places that come after the end, or go, change nothing
  pub link-left : (more : List ℕ) (slot end link : ℕ) → end ≤ length hashes → IsLink slots hashes slot end link → IsLink slots (hashes ++ more) slot end link
  link-left more slot end link h l = record {
    low = l.low;
    here = λ i x e g. l.here i x e (sym (get_left hashes more i (omega (arith, l.low))) ∙ g);
    none = λ j x a b g. l.none j x a b (sym (get_left hashes more j (omega arith)) ∙ g);
  }

  pub link-front : (more : List ℕ) (slot end link : ℕ) → end ≤ length hashes → IsLink slots (hashes ++ more) slot end link → IsLink slots hashes slot end link
  link-front more slot end link h l = record {
    low = l.low;
    here = λ i x e g. l.here i x e (get_left hashes more i (omega (arith, l.low)) ∙ g);
    none = λ j x a b g. l.none j x a b (get_left hashes more j (omega arith) ∙ g);
  }

  module _ (end hash : ℕ) (is : slice_get hashes end ≡ Some hash) where
    one : (i x : ℕ) → end ≡ i → slice_get hashes i ≡ Some x → hash ≡ x
    one i x e g = same_Some hash x (sym is ∙ ap (slice_get hashes) e ∙ g)

    -- the place at the end leads its slot
    pub link-new : IsLink slots hashes (slot_of slots hash) (end + 1) (end + 1)
    link-new = record {
      low = omega arith;
      here = λ i x e g. ap (slot_of slots) (sym (one i x (omega arith) g));
      none = λ j x a b g. absurd (omega arith);
    }

    -- other slots don't see it
    pub link-past : (slot link : ℕ) → (slot_of slots hash ≡ slot → ⊥) → IsLink slots hashes slot end link → IsLink slots hashes slot (end + 1) link
    link-past slot link other l = record {
      low = omega (arith, l.low);
      here = l.here;
      none = λ j x a b g s. ⊎_elim
          (λ (e : end ≡ j). other (ap (slot_of slots) (one j x e g) ∙ s))
          (λ d. l.none j x a (omega (arith, d)) g s)
          (same_or_not end j);
    }

    pub link-before : (slot link : ℕ) → (slot_of slots hash ≡ slot → ⊥) → IsLink slots hashes slot (end + 1) link → IsLink slots hashes slot end link
    link-before slot link other l = record {
      low = ⊎_elim
          (λ (e : link ≡ end + 1). absurd (other (l.here end hash e is)))
          (λ d. omega (arith, d, l.low))
          (same_or_not link (end + 1));
      here = l.here;
      none = λ j x a b. l.none j x a (omega arith);
    }

module _ (heads hashes : List ℕ) (end hash : ℕ) (is : slice_get hashes end ≡ Some hash) where
  slot : ℕ
  slot = slot_of (length heads) hash

  wide : (v : ℕ) → length (set heads (slot_of (length heads) hash) v) ≡ length heads
  wide v = length-set heads (slot_of (length heads) hash) v

  module _ (v old new : ℕ) (all : AreHeads heads hashes old)
      (mine : IsLink (length heads) hashes (slot_of (length heads) hash) new v)
      (others : (s link : ℕ) → (slot_of (length heads) hash ≡ s → ⊥) → IsLink (length heads) hashes s old link → IsLink (length heads) hashes s new link) where
    heads_set : AreHeads (set heads (slot_of (length heads) hash) v) hashes new
    heads_set s link g =
        subst (λ n. IsLink n hashes s new link) (sym (wide v))
        (⊎_elim
        (λ (e : slot_of (length heads) hash ≡ s).
        let within : slot_of (length heads) hash < length heads = omega (arith, e, wide v, slice_get_within (set heads (slot_of (length heads) hash) v) s link g) in
        let is_v : v ≡ link = same_Some v link (sym (get_set_same heads (slot_of (length heads) hash) v within) ∙ ap (slice_get (set heads (slot_of (length heads) hash) v)) e ∙ g) in
        subst (λ x. IsLink (length heads) hashes s new x) is_v (subst (λ x. IsLink (length heads) hashes x new v) e mine))
        (λ d. others s link d (all s link (sym (get_set_other heads (slot_of (length heads) hash) s v d) ∙ g)))
        (same_or_not (slot_of (length heads) hash) s))

  -- the place at the end comes to lead its slot
  pub heads_more : AreHeads heads hashes end → AreHeads (set heads (slot_of (length heads) hash) (end + 1)) hashes (end + 1)
  heads_more all = heads_set (end + 1) end (end + 1) all (link-new (length heads) hashes end hash is) (λ s link d. link-past (length heads) hashes end hash is s link d)

  -- and goes again
  pub heads_less : (next : ℕ) → IsLink (length heads) hashes (slot_of (length heads) hash) end next → AreHeads heads hashes (end + 1) → AreHeads (set heads (slot_of (length heads) hash) next) hashes end
  heads_less next mine all = heads_set next (end + 1) end all mine (λ s link d. link-before (length heads) hashes end hash is s link d)

link_at : (links : List Link) (i : ℕ) (x : Link) → slice_get links i ≡ Some x → slice_get (hashes_of links) i ≡ Some x.hash
link_at links i x e = get_map (λ (l : Link). l.hash) links i x e

hashes_push : (links : List Link) (x : Link) → hashes_of (links ++ x ∷ []) ≡ hashes_of links ++ x.hash ∷ []
hashes_push links x = map_push (λ (l : Link). l.hash) links x

-- ---- one place more

module _ (heads : List ℕ) (links : List Link) (x : Link) (chained : IsChained heads links) (room : length links < length heads) (few : length links < 4194304)
    (first : slice_get heads (slot_of (length heads) x.hash) ≡ Some x.next) where
  count : length (hashes_of links) ≡ length links
  count = length-map links (λ (l : Link). l.hash)

  all : List ℕ
  all = hashes_of links ++ x.hash ∷ []

  last_is : slice_get (hashes_of links ++ x.hash ∷ []) (length links) ≡ Some x.hash
  last_is = ap (slice_get (hashes_of links ++ x.hash ∷ [])) (sym count) ∙ get_end (hashes_of links) x.hash []

  old_heads : AreHeads heads (hashes_of links ++ x.hash ∷ []) (length links)
  old_heads s link g = link-left (length heads) (hashes_of links) (x.hash ∷ []) s (length links) link (omega (arith, count)) (chained.starts s link g)

  new_nexts : (i : ℕ) (l : Link) → slice_get (links ++ x ∷ []) i ≡ Some l → IsLink (length heads) (hashes_of links ++ x.hash ∷ []) (slot_of (length heads) l.hash) i l.next
  new_nexts i l g =
      ⊎_elim
      (λ (h : i < length links). link-left (length heads) (hashes_of links) (x.hash ∷ []) (slot_of (length heads) l.hash) i l.next (omega (arith, count)) (chained.nexts i l (sym (get_left links (x ∷ []) i h) ∙ g)))
      (λ (e : i ≡ length links).
      let same : x ≡ l = same_Some x l (sym (get_end links x []) ∙ ap (slice_get (links ++ x ∷ [])) (sym e) ∙ g) in
      subst (λ (y : Link). IsLink (length heads) (hashes_of links ++ x.hash ∷ []) (slot_of (length heads) y.hash) i y.next) same
      (subst (λ j. IsLink (length heads) (hashes_of links ++ x.hash ∷ []) (slot_of (length heads) x.hash) j x.next) (sym e) (old_heads (slot_of (length heads) x.hash) x.next first)))
      (below_or_at i (length links) (omega (arith, slice_get_within (links ++ x ∷ []) i l g, length_push links x)))

  pub chained_push : IsChained (set heads (slot_of (length heads) x.hash) (length links + 1)) (links ++ x ∷ [])
  chained_push =
      let wide : length (set heads (slot_of (length heads) x.hash) (length links + 1)) ≡ length heads = length-set heads (slot_of (length heads) x.hash) (length links + 1) in
      let long : length (links ++ x ∷ []) ≡ length links + 1 = length_push links x in
      record {
        room = omega arith;
        few = omega arith;
        starts = subst (λ hs. AreHeads (set heads (slot_of (length heads) x.hash) (length links + 1)) hs (length (links ++ x ∷ []))) (sym (hashes_push links x))
            (subst (λ n. AreHeads (set heads (slot_of (length heads) x.hash) (length links + 1)) (hashes_of links ++ x.hash ∷ []) n) (sym long) (heads_more heads (hashes_of links ++ x.hash ∷ []) (length links) x.hash last_is old_heads));
        nexts = λ i l g. subst (λ hs. IsLink (length (set heads (slot_of (length heads) x.hash) (length links + 1))) hs (slot_of (length (set heads (slot_of (length heads) x.hash) (length links + 1))) l.hash) i l.next) (sym (hashes_push links x))
            (subst (λ n. IsLink n (hashes_of links ++ x.hash ∷ []) (slot_of n l.hash) i l.next) (sym wide) (new_nexts i l g));
      }

-- ---- one place less

module _ (heads : List ℕ) (links : List Link) (x : Link) (chained : IsChained heads (links ++ x ∷ [])) where
  pub chained_pop : IsChained (set heads (slot_of (length heads) x.hash) x.next) links
  chained_pop =
      let wide : length (set heads (slot_of (length heads) x.hash) x.next) ≡ length heads = length-set heads (slot_of (length heads) x.hash) x.next in
      let long : length (links ++ x ∷ []) ≡ length links + 1 = length_push links x in
      let counted : length (hashes_of links) ≡ length links = length-map links (λ (l : Link). l.hash) in
      let last : slice_get (hashes_of (links ++ x ∷ [])) (length links) ≡ Some x.hash = link_at (links ++ x ∷ []) (length links) x (get_end links x []) in
      let less : AreHeads (set heads (slot_of (length heads) x.hash) x.next) (hashes_of (links ++ x ∷ [])) (length links) =
      heads_less heads (hashes_of (links ++ x ∷ [])) (length links) x.hash last x.next (chained.nexts (length links) x (get_end links x []))
      (subst (λ n. AreHeads heads (hashes_of (links ++ x ∷ [])) n) long chained.starts) in
      let fewer : (m slot end link : ℕ) → end ≤ length links → IsLink m (hashes_of (links ++ x ∷ [])) slot end link → IsLink m (hashes_of links) slot end link =
      λ m slot end link h l. link-front m (hashes_of links) (x.hash ∷ []) slot end link (omega arith) (subst (λ hs. IsLink m hs slot end link) (hashes_push links x) l) in
      record {
        room = omega (arith, chained.room);
        few = omega (arith, chained.few);
        starts = λ s link g. fewer (length (set heads (slot_of (length heads) x.hash) x.next)) s (length links) link (omega arith) (less s link g);
        nexts = λ i l g.
            let within : i < length links = slice_get_within links i l g in
            fewer (length (set heads (slot_of (length heads) x.hash) x.next)) (slot_of (length (set heads (slot_of (length heads) x.hash) x.next)) l.hash) i l.next (omega arith)
            (subst (λ n. IsLink n (hashes_of (links ++ x ∷ [])) (slot_of n l.hash) i l.next) (sym wide) (chained.nexts i l (get_left links (x ∷ []) i within ∙ g)));
      }

-- ---- along a chain

-- the places from the link on, below the end, don't have the hash
pub record HasPassed (heads : List ℕ) (links : List Link) (hash end link : ℕ) : Type 0 where
  pub low : link ≤ end
  pub here : (i h : ℕ) → link ≡ i + 1 → slice_get (hashes_of links) i ≡ Some h → slot_of (length heads) h ≡ slot_of (length heads) hash
  pub none : (j : ℕ) → link ≤ j → j < end → slice_get (hashes_of links) j ≡ Some hash → ⊥

module _ (heads : List ℕ) (links : List Link) (hash end place : ℕ) (x : Link) (chained : IsChained heads links) (passed : HasPassed heads links hash end (place + 1))
    (is : slice_get links place ≡ Some x) (other : x.hash ≡ hash → ⊥) where
  pub passed_more : HasPassed heads links hash end x.next
  passed_more =
      let next = chained.nexts place x is in
      let slot : slot_of (length heads) x.hash ≡ slot_of (length heads) hash = passed.here place x.hash refl (link_at links place x is) in
      record {
        low = omega (arith, next.low, passed.low);
        here = λ i h e g. next.here i h e g ∙ slot;
        none = λ j a b g.
            ⊎_elim
            (λ (d : j < place). next.none j hash a d g (sym slot))
            (λ (d : j < place → ⊥).
            ⊎_elim
            (λ (e : place ≡ j). other (same_Some x.hash hash (sym (link_at links place x is) ∙ ap (slice_get (hashes_of links)) e ∙ g)))
            (λ (e : place ≡ j → ⊥). passed.none j (omega (arith, d, e)) b g)
            (same_or_not place j))
            (less_or_not j place);
      }

-- ---- all places anew

-- the first places are linked
pub record AreLinkedBelow (heads hashes : List ℕ) (links : List Link) (end : ℕ) : Type 0 where
  pub starts : AreHeads heads hashes end
  pub nexts : (i : ℕ) (x : Link) → i < end → slice_get links i ≡ Some x → IsLink (length heads) hashes (slot_of (length heads) x.hash) i x.next

module _ (heads hashes : List ℕ) (links : List Link) (end : ℕ) (x : Link) (below : AreLinkedBelow heads hashes links end)
    (is : slice_get hashes end ≡ Some x.hash) (within : end < length links) (first : slice_get heads (slot_of (length heads) x.hash) ≡ Some x.next) where
  pub linked_more : AreLinkedBelow (set heads (slot_of (length heads) x.hash) (end + 1)) hashes (set links end x) (end + 1)
  linked_more = record {
    starts = heads_more heads hashes end x.hash is below.starts;
    nexts = λ i l h g.
        subst (λ n. IsLink n hashes (slot_of n l.hash) i l.next) (sym (length-set heads (slot_of (length heads) x.hash) (end + 1)))
        (⊎_elim
        (λ (e : end ≡ i).
        let same : x ≡ l = same_Some x l (sym (get_set_same links end x within) ∙ ap (slice_get (set links end x)) e ∙ g) in
        subst (λ (y : Link). IsLink (length heads) hashes (slot_of (length heads) y.hash) i y.next) same
        (subst (λ j. IsLink (length heads) hashes (slot_of (length heads) x.hash) j x.next) e (below.starts (slot_of (length heads) x.hash) x.next first)))
        (λ (d : end ≡ i → ⊥). below.nexts i l (omega (arith, d)) (sym (get_set_other links end i x d) ∙ g))
        (same_or_not end i));
  }

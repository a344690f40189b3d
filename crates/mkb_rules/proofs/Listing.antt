-- A list of the nodes that may be in use, when a node comes and when one comes to use.
use Rattle.std.proofs.Common.{ℕ, zero, suc, ◌+◌, ◌<◌, ◌≤◌, ◌≡◌, refl, sym, ap, ap₂, ◌∙◌, subst, arith, List, [], ◌∷◌, ◌++◌, length, map, filter, set, get_or, cond, Bool, true, false}
use Rattle.std.specs.Prelude.{◌||◌, ◌&&◌, not, ◌==◌, ◌≢◌, insert, remove, Result, Ok, Err}
use Rattle.std.specs.Ordering.{nat_cmp}
use Rattle.std.specs.List.Sorted.{IsBinarySearchResult}
use Rattle.std.proofs.lemmas.Bool.Decides.{nat_tests}
use Rattle.std.proofs.lemmas.List.{get_or-set_other, get_or-set_same}
use Rattle.std.proofs.lemmas.List.Elements.{filter-append, filter_passes}
use Rattle.std.proofs.lemmas.List.Sorted.{searched}
use mathlib.Core.Bool.{true≢false}
use Rattle.std.proofs.Math.Bool.{or-false, and-false, and-true}
use Rattle.std.proofs.lemmas.Bool.{or_parts, eqb-true as alike, ne_eqb}
use Rattle.kb_node.specs.declared.node.NodeId.{NodeId}
use Rattle.mkb_model.specs.Plain.{numbers_from}
use Rattle.mkb_rules.specs.Sizes.{AreListed}
use Rattle.mkb_rules.proofs.Costs.{numbers_next}

-- ---- tests

pub apart : (m n : ℕ) → (m == n) ≡ false → m ≢ n
apart m n e same = absurd (true≢false (sym (test same) ∙ e))
  where
    test : m ≡ n → (m == n) ≡ true
    test eq = grind (arith, nat_tests)

-- ---- numbers that pass a test

-- tests that agree on numbers let the same of them through
pub agreeing : (t u : ℕ → Bool) (a k : ℕ) → ((m : ℕ) → a ≤ m → m < a + k → t m ≡ u m) → filter t (numbers_from a k) ≡ filter u (numbers_from a k)
agreeing t u a zero h = refl
agreeing t u a (suc k) h = ap₂ (λ (b : Bool) (l : List ℕ). cond b (a ∷ l) l) (h a (omega arith) (omega arith)) (agreeing t u (a + 1) k (λ m g w. h m (omega (arith, g)) (omega (arith, w))))

module _ (a d : ℕ) (l : List ℕ) where
  no_less_next : (b : Bool) → ((j : ℕ) → j < length l → a + 1 ≤ get_or l j d) → (i : ℕ) → i < length (cond b (a ∷ l) l) → a ≤ get_or (cond b (a ∷ l) l) i d
  no_less_next true ih zero w = omega arith
  no_less_next true ih (suc i) w = omega (arith, ih i (omega (arith, w)))
  no_less_next false ih i w = omega (arith, ih i w)

  rising_next : (b : Bool) → ((j : ℕ) → j < length l → a + 1 ≤ get_or l j d) → ((i j : ℕ) → i ≤ j → j < length l → get_or l i d ≤ get_or l j d)
      → (i j : ℕ) → i ≤ j → j < length (cond b (a ∷ l) l) → get_or (cond b (a ∷ l) l) i d ≤ get_or (cond b (a ∷ l) l) j d
  rising_next true low ih zero zero v w = omega arith
  rising_next true low ih zero (suc j) v w = omega (arith, low j (omega (arith, w)))
  rising_next true low ih (suc i) zero v w = absurd (omega (arith, v))
  rising_next true low ih (suc i) (suc j) v w = ih i j (omega (arith, v)) (omega (arith, w))
  rising_next false low ih i j v w = ih i j v w

module _ (t : ℕ → Bool) where
  no_less : (a k i d : ℕ) → i < length (filter t (numbers_from a k)) → a ≤ get_or (filter t (numbers_from a k)) i d
  no_less a zero i d h = absurd (omega (arith, h))
  no_less a (suc k) i d h = no_less_next a d (filter t (numbers_from (a + 1) k)) (t a) (λ j w. no_less (a + 1) k j d w) i h

  -- they rise
  pub rising : (a k i j d : ℕ) → i ≤ j → j < length (filter t (numbers_from a k)) → get_or (filter t (numbers_from a k)) i d ≤ get_or (filter t (numbers_from a k)) j d
  rising a zero i j d le h = absurd (omega (arith, h))
  rising a (suc k) i j d le h = rising_next a d (filter t (numbers_from (a + 1) k)) (t a) (λ j w. no_less (a + 1) k j d w) (λ i j v w. rising (a + 1) k i j d v w) i j le h

-- ---- a number at its place

-- the numbers below the place are less than n, and the others greater
pub record IsPlace (n : ℕ) (l : List ℕ) (i : ℕ) : Type 0 where
  pub within : i ≤ length l
  pub below : (j : ℕ) → j < i → get_or l j 0 < n
  pub above : (j : ℕ) → i ≤ j → j < length l → n < get_or l j 0

later : (n a : ℕ) (l : List ℕ) (i : ℕ) → IsPlace n (a ∷ l) (suc i) → IsPlace n l i
later n a l i p = record {
  within = omega (arith, p.within);
  below = λ j h. p.below (suc j) (omega (arith, h));
  above = λ j h w. p.above (suc j) (omega (arith, h)) (omega (arith, w));
}

module _ (t : ℕ → Bool) (n : ℕ) where
  abbrev or_n : ℕ → Bool
  or_n m = t m || (m == n)

  none_other : (a k : ℕ) → n < a → filter t (numbers_from a k) ≡ filter or_n (numbers_from a k)
  none_other a k h = agreeing t or_n a k (λ m g w. sym (ap (λ x. t m || x) (ne_eqb m n (λ e. absurd (omega (arith, g, h, e)))) ∙ or-false (t m)))

  put_next : (a k : ℕ) (b e : Bool) → (a == n) ≡ e → a ≤ n → ((j : ℕ) → a + 1 ≤ n → IsPlace n (filter t (numbers_from (a + 1) k)) j → insert (filter t (numbers_from (a + 1) k)) j n ≡ filter or_n (numbers_from (a + 1) k))
      → (i : ℕ) → IsPlace n (cond b (a ∷ filter t (numbers_from (a + 1) k)) (filter t (numbers_from (a + 1) k))) i
      → insert (cond b (a ∷ filter t (numbers_from (a + 1) k)) (filter t (numbers_from (a + 1) k))) i n ≡ cond (b || e) (a ∷ filter or_n (numbers_from (a + 1) k)) (filter or_n (numbers_from (a + 1) k))
  put_next a k true true e le ih zero p = absurd (omega (arith, p.above 0 (omega arith) (omega arith), alike a n e))
  put_next a k true true e le ih (suc i) p = absurd (omega (arith, p.below 0 (omega arith), alike a n e))
  put_next a k false true e le ih zero p = ap₂ (λ (m : ℕ) (l : List ℕ). m ∷ l) (sym (alike a n e)) (none_other (a + 1) k (omega (arith, alike a n e)))
  put_next a k false true e le ih (suc i) p = absurd (omega (arith, p.below 0 (omega arith), no_less t (a + 1) k 0 0 (omega (arith, p.within)), alike a n e))
  put_next a k true false e le ih zero p = absurd (omega (arith, p.above 0 (omega arith) (omega arith), le))
  put_next a k true false e le ih (suc i) p = ap (λ (l : List ℕ). a ∷ l) (ih i (omega (arith, le, apart a n e)) (later n a (filter t (numbers_from (a + 1) k)) i p))
  put_next a k false false e le ih i p = ih i (omega (arith, le, apart a n e)) p

  -- with n at its place it is n too that passes
  pub put_in : (a k i : ℕ) → a ≤ n → n < a + k → IsPlace n (filter t (numbers_from a k)) i → insert (filter t (numbers_from a k)) i n ≡ filter or_n (numbers_from a k)
  put_in a zero i le lt p = absurd (omega (arith, le, lt))
  put_in a (suc k) i le lt p = put_next a k (t a) (a == n) refl le (λ j w q. put_in (a + 1) k j w (omega (arith, lt)) q) i p

-- ---- a number taken out

module _ (t : ℕ → Bool) (n : ℕ) where
  abbrev but_n : ℕ → Bool
  but_n m = t m && not (m == n)

  all_others : (a k : ℕ) → n < a → filter t (numbers_from a k) ≡ filter but_n (numbers_from a k)
  all_others a k h = agreeing t but_n a k (λ m g w. sym (ap (λ x. t m && not x) (ne_eqb m n (λ e. absurd (omega (arith, g, h, e)))) ∙ and-true (t m)))

  take_next : (a k : ℕ) (b e : Bool) → (a == n) ≡ e
      → ((j : ℕ) → j < length (filter t (numbers_from (a + 1) k)) → get_or (filter t (numbers_from (a + 1) k)) j 0 ≡ n → remove (filter t (numbers_from (a + 1) k)) j ≡ filter but_n (numbers_from (a + 1) k))
      → (i : ℕ) → i < length (cond b (a ∷ filter t (numbers_from (a + 1) k)) (filter t (numbers_from (a + 1) k))) → get_or (cond b (a ∷ filter t (numbers_from (a + 1) k)) (filter t (numbers_from (a + 1) k))) i 0 ≡ n
      → remove (cond b (a ∷ filter t (numbers_from (a + 1) k)) (filter t (numbers_from (a + 1) k))) i ≡ cond (b && not e) (a ∷ filter but_n (numbers_from (a + 1) k)) (filter but_n (numbers_from (a + 1) k))
  take_next a k true true e ih zero w is = all_others (a + 1) k (omega (arith, is))
  take_next a k true true e ih (suc i) w is = absurd (omega (arith, no_less t (a + 1) k i 0 (omega (arith, w)), is, alike a n e))
  take_next a k true false e ih zero w is = absurd (apart a n e is)
  take_next a k true false e ih (suc i) w is = ap (λ (l : List ℕ). a ∷ l) (ih i (omega (arith, w)) is)
  take_next a k false e d ih i w is = ih i w is

  -- without n each other one passes
  pub take_out : (a k i : ℕ) → i < length (filter t (numbers_from a k)) → get_or (filter t (numbers_from a k)) i 0 ≡ n → remove (filter t (numbers_from a k)) i ≡ filter but_n (numbers_from a k)
  take_out a zero i w is = absurd (omega (arith, w))
  take_out a (suc k) i w is = take_next a k (t a) (a == n) refl (λ j v e. take_out (a + 1) k j v e) i w is

-- ---- lists of nodes

abbrev numbers : List NodeId → List ℕ
numbers l = map (λ (n : NodeId). n.0) l

number_at : (l : List NodeId) (i d : ℕ) → get_or (numbers l) i d ≡ (get_or l i (record { 0 = d })).0
number_at [] i d = refl
number_at (n ∷ l) zero d = refl
number_at (n ∷ l) (suc i) d = number_at l i d

length_numbers : (l : List NodeId) → length (numbers l) ≡ length l
length_numbers [] = refl
length_numbers (n ∷ l) = ap suc (length_numbers l)

numbers_insert : (l : List NodeId) (i : ℕ) (n : NodeId) → numbers (insert l i n) ≡ insert (numbers l) i n.0
numbers_insert [] zero n = refl
numbers_insert [] (suc i) n = refl
numbers_insert (m ∷ l) zero n = refl
numbers_insert (m ∷ l) (suc i) n = ap (λ (k : List ℕ). m.0 ∷ k) (numbers_insert l i n)

numbers_remove : (l : List NodeId) (i : ℕ) → numbers (remove l i) ≡ remove (numbers l) i
numbers_remove [] zero = refl
numbers_remove [] (suc i) = refl
numbers_remove (m ∷ l) zero = refl
numbers_remove (m ∷ l) (suc i) = ap (λ (k : List ℕ). m.0 ∷ k) (numbers_remove l i)

-- what a search for a node by its number tells of the numbers
of_numbers : (l : List NodeId) (x : ℕ) (r : Result ℕ ℕ) → IsBinarySearchResult (λ (y : NodeId). nat_cmp y.0 x) l r → IsBinarySearchResult (λ (y : ℕ). nat_cmp y x) (numbers l) r
of_numbers l x (Ok i) h = λ d. ap (λ (m : ℕ). nat_cmp m x) (number_at l i d) ∙ h (record { 0 = d })
of_numbers l x (Err i) h = λ up.
    let parted = h (λ a b d le lt. rw (← number_at l a d.0, ← number_at l b d.0) (up a b d.0 le (omega (arith, lt, length_numbers l)))) in (
      λ k d v w. ap (λ (m : ℕ). nat_cmp m x) (number_at l k d) ∙ parted.0 k (record { 0 = d }) v w,
      λ k d v w. ap (λ (m : ℕ). nat_cmp m x) (number_at l k d) ∙ parted.1 k (record { 0 = d }) v (omega (arith, w, length_numbers l)),
    )

-- ---- what is listed

-- no node
pub none_listed : (used : List Bool) (l : List NodeId) → used ≡ [] → l ≡ [] → AreListed used (length used) l
none_listed used l e f = record {
  has = λ m. true;
  is = ap numbers f ∙ sym (ap (λ (u : List Bool). filter (λ m. true) (numbers_from 0 (length u))) e);
  others = λ m h. absurd (true≢false h);
}

-- a node comes, out of use
pub listed_new : (used : List Bool) (l : List NodeId) → AreListed used (length used) l → AreListed (used ++ false ∷ []) (length (used ++ false ∷ [])) l
listed_new used l a = record {
  has = has;
  is = a.is ∙ agreeing a.has has 0 (length used) (λ m g w. sym (below m (omega (arith, w)))) ∙ none_behind ∙ sym (ap (λ (k : ℕ). filter has (numbers_from 0 k)) (one_more used) ∙ next);
  others = others;
}
  where
    has : ℕ → Bool
    has m = a.has m && not (m == length used)

    one_more : (u : List Bool) → length (u ++ false ∷ []) ≡ length u + 1
    one_more [] = refl
    one_more (x ∷ u) = omega (arith, one_more u)

    below : (m : ℕ) → m < length used → has m ≡ a.has m
    below m w = ap (λ x. a.has m && not x) (ne_eqb m (length used) (λ e. absurd (omega (arith, w, e)))) ∙ and-true (a.has m)

    itself : (m : ℕ) → (m == m) ≡ true
    itself m = grind (arith, nat_tests)

    not_last : has (length used) ≡ false
    not_last = ap (λ x. a.has (length used) && not x) (itself (length used)) ∙ and-false (a.has (length used))

    nothing : (k : List ℕ) → k ≡ k ++ []
    nothing [] = refl
    nothing (x ∷ k) = ap (λ (z : List ℕ). x ∷ z) (nothing k)

    none_behind : filter has (numbers_from 0 (length used)) ≡ filter has (numbers_from 0 (length used)) ++ []
    none_behind = nothing (filter has (numbers_from 0 (length used)))

    next : filter has (numbers_from 0 (length used + 1)) ≡ filter has (numbers_from 0 (length used)) ++ []
    next = ap (filter has) (numbers_next (length used)) ∙ filter-append has (numbers_from 0 (length used)) (length used ∷ []) ∙ ap (λ (x : Bool). filter has (numbers_from 0 (length used)) ++ cond x (length used ∷ []) []) not_last

    kept : (u : List Bool) (m : ℕ) → get_or u m true ≡ false → get_or (u ++ false ∷ []) m true ≡ false
    kept [] m h = absurd (true≢false h)
    kept (x ∷ u) zero h = h
    kept (x ∷ u) (suc m) h = kept u m h

    last : (u : List Bool) → get_or (u ++ false ∷ []) (length u) true ≡ false
    last [] = refl
    last (x ∷ u) = last u

    others : (m : ℕ) → has m ≡ false → get_or (used ++ false ∷ []) m true ≡ false
    others m h = go (m == length used) refl
      where
        go : (b : Bool) → (m == length used) ≡ b → get_or (used ++ false ∷ []) m true ≡ false
        go true e = ap (λ (k : ℕ). get_or (used ++ false ∷ []) k true) (alike m (length used) e) ∙ last used
        go false e = kept used m (a.others m (sym (ap (λ x. a.has m && not x) e ∙ and-true (a.has m)) ∙ h))

module _ (used : List Bool) (n : NodeId) (l : List NodeId) (h : n.0 < length used) (a : AreListed used (length used) l) where
  up : (i j : ℕ) → i ≤ j → j < length (numbers l) → get_or (numbers l) i 0 ≤ get_or (numbers l) j 0
  up = subst {A = List ℕ} (λ k. (i j : ℕ) → i ≤ j → j < length k → get_or k i 0 ≤ get_or k j 0) (sym a.is) (λ i j le lt. rising a.has 0 (length used) i j 0 le lt)

  found : (i : ℕ) → IsBinarySearchResult (λ (y : NodeId). nat_cmp y.0 n.0) l (Ok i) → (i < length (numbers l)) × (get_or (numbers l) i 0 ≡ n.0)
  found i search = searched (numbers l) n.0 (Ok i) (of_numbers l n.0 (Ok i) search) up

  same_out : (m : ℕ) → get_or used m true ≡ false → get_or (set used n.0 false) m true ≡ false
  same_out m e = go (m == n.0) refl
    where
      go : (b : Bool) → (m == n.0) ≡ b → get_or (set used n.0 false) m true ≡ false
      go true d = ap (λ (k : ℕ). get_or (set used n.0 false) k true) (alike m n.0 d) ∙ get_or-set_same used n.0 false true h
      go false d = get_or-set_other used n.0 m false true (apart m n.0 d) ∙ e

  -- a node comes to use that is listed
  pub listed_already : (i : ℕ) → IsBinarySearchResult (λ (y : NodeId). nat_cmp y.0 n.0) l (Ok i) → AreListed (set used n.0 true) (length used) l
  listed_already i search = record { has = a.has; is = a.is; others = others }
    where
      is_listed : a.has n.0 ≡ true
      is_listed = ap a.has (sym (found i search).1 ∙ ap (λ (k : List ℕ). get_or k i 0) a.is) ∙ filter_passes a.has (numbers_from 0 (length used)) i 0 (omega (arith, (found i search).0, ap length a.is))

      others : (m : ℕ) → a.has m ≡ false → get_or (set used n.0 true) m true ≡ false
      others m e = get_or-set_other used n.0 m true true (λ same. absurd (true≢false (sym is_listed ∙ ap a.has (sym same) ∙ e))) ∙ a.others m e

  -- a node goes out of use that isn't listed
  pub listed_not : AreListed (set used n.0 false) (length used) l
  listed_not = record { has = a.has; is = a.is; others = λ m e. same_out m (a.others m e) }

  -- a node goes out of use and is taken out of the list
  pub listed_without : (i : ℕ) → IsBinarySearchResult (λ (y : NodeId). nat_cmp y.0 n.0) l (Ok i) → AreListed (set used n.0 false) (length used) (remove l i)
  listed_without i search = record {
    has = λ m. a.has m && not (m == n.0);
    is = numbers_remove l i ∙ ap (λ (k : List ℕ). remove k i) a.is
        ∙ take_out a.has n.0 0 (length used) i (omega (arith, (found i search).0, ap length a.is)) (sym (ap (λ (k : List ℕ). get_or k i 0) a.is) ∙ (found i search).1);
    others = others;
  }
    where
      others : (m : ℕ) → (a.has m && not (m == n.0)) ≡ false → get_or (set used n.0 false) m true ≡ false
      others m e = go (m == n.0) refl
        where
          go : (b : Bool) → (m == n.0) ≡ b → get_or (set used n.0 false) m true ≡ false
          go true d = ap (λ (k : ℕ). get_or (set used n.0 false) k true) (alike m n.0 d) ∙ get_or-set_same used n.0 false true h
          go false d = same_out m (a.others m (sym (ap (λ x. a.has m && not x) d ∙ and-true (a.has m)) ∙ e))

  -- a node comes to use and is put into the list
  pub listed_at : (i : ℕ) → IsBinarySearchResult (λ (y : NodeId). nat_cmp y.0 n.0) l (Err i) → AreListed (set used n.0 true) (length used) (insert l i n)
  listed_at i search = record {
    has = λ m. a.has m || (m == n.0);
    is = numbers_insert l i n ∙ ap (λ (k : List ℕ). insert k i n.0) a.is ∙ put_in a.has n.0 0 (length used) i (omega arith) (omega (arith, h)) (subst {A = List ℕ} (λ k. IsPlace n.0 k i) a.is place);
    others = λ m e. let e' = or_parts (a.has m) (m == n.0) e in get_or-set_other used n.0 m true true (apart m n.0 e'.1) ∙ a.others m e'.0;
  }
    where
      place : IsPlace n.0 (numbers l) i
      place = let found = searched (numbers l) n.0 (Err i) (of_numbers l n.0 (Err i) search) up in record { within = found.0; below = found.1; above = found.2 }

-- For which names a label stands after each operation.
use Rattle.std.proofs.Common.{◌≡◌, ℕ, ◌+◌, ◌-◌, ◌<◌, ◌≤◌, List, [], ◌∷◌, ◌++◌, length, Bool, true, false, ◌&&◌, ◌||◌, not, take, drop, set, get_or, filter, replicate, cond, zero, suc, refl, sym, ap, ap₂, ◌∙◌, arith, length-append, length-set, length-drop}
use Rattle.std.proofs.lemmas.List.{drop_more, get_or_append_left, get_or_at, get_or-drop, get_or-take, length-take, take_all, drop_all, get_or_past, replicate_more}
use mathlib.Core.Bool.{true≢false}
use Rattle.std.specs.declared.cmp.Ordering.{Ordering}
use Rattle.std.specs.declared.cmp.Ordering.TheVariants.{Less, Equal, Greater}
use Rattle.kb_label.specs.Names.{Name, name_cmp, name_eq, has, by_order, add, join, meet, minus, is_empty, IsInNameOrder}
use Rattle.kb_label.proofs.Members.{has-add, has-filter, has-join, has-meet, has-minus}
use Rattle.kb_label.proofs.Ordered.{ordered-add, ordered-filter, ordered-join, length-add}
use Rattle.kb_label.proofs.Sets.{same_names}
use Rattle.fork_labels.specs.Places.{names_of, living_of, IsLog, AreThere, place_in, with_fork, with_forks, at_end, picked, stands_for}
use Rattle.fork_labels.specs.Sets.{result_of, none_in}
use Rattle.fork_labels.specs.declared.place_set.Operation.{Operation}
use Rattle.fork_labels.specs.declared.place_set.Operation.TheVariants.{Join, Meet, Minus}
use Rattle.fork_labels.proofs.Picked.{AreDistinct, has-sorted, sorted, picked-absent, has-place, has-set, either, both, first_alone, has-either, has-both, has-alone}
use Rattle.fork_labels.proofs.SetIn.{length-result_of}
use Rattle.fork_labels.proofs.Relabelled.{good-log, length-names_of, length-at_end, place_in-there}

-- ---- at the end of the log

pub at_end-full : (fs : List ℕ) (bs : List Bool) → length bs ≡ length fs + 1 → at_end fs bs ≡ bs
unfolding at_end with_forks
at_end-full fs bs h =
    (λ i. with_forks (take_all (length fs + 1) bs (omega (arith, h)) i) (drop_all (length bs - 1) fs (omega (arith, h)) i))

-- where no fork came later
pub at_end-late : (fs : List ℕ) (bs : List Bool) → length fs < length bs → at_end fs bs ≡ take (length fs + 1) bs
unfolding at_end with_forks
at_end-late fs bs h = ap (with_forks (take (length fs + 1) bs)) (drop_all (length bs - 1) fs (omega (arith, h)))

-- where all places of the label are there
pub at_end-early : (fs : List ℕ) (bs : List Bool) → length bs ≤ length fs + 1 → at_end fs bs ≡ with_forks bs (drop (length bs - 1) fs)
unfolding at_end
at_end-early fs bs h = ap (λ l. with_forks l (drop (length bs - 1) fs)) (take_all (length fs + 1) bs h)

pub late : (fs gs : List ℕ) (bs cs made : List Bool) → gs ≡ fs → cs ≡ bs → length gs < length bs → made ≡ take (length gs + 1) cs → made ≡ at_end fs bs
late fs gs bs cs made e f h m = m ∙ (λ i. take (length (e i) + 1) (f i)) ∙ sym (at_end-late fs bs (omega (arith, h, ap length e)))

pub early : (fs gs : List ℕ) (bs cs made : List Bool) (k : ℕ) → gs ≡ fs → cs ≡ bs → k ≡ length bs → k ≤ length gs → made ≡ with_forks cs (drop (k - 1) gs) → made ≡ at_end fs bs
early fs gs bs cs made k e f n h m = m ∙ (λ i. with_forks (f i) (drop (n i - 1) (e i))) ∙ sym (at_end-early fs bs (omega (arith, h, n, ap length e)))

-- ---- where a place stems from

with_forks-front : (fs : List ℕ) (bs : List Bool) (t : ℕ) → t < length bs → get_or (with_forks bs fs) t false ≡ get_or bs t false
unfolding with_forks with_fork
with_forks-front [] bs t h = refl
with_forks-front (s ∷ fs) bs t h =
    with_forks-front fs (bs ++ get_or bs s false ∷ []) t (omega (arith, length-append bs (get_or bs s false ∷ [])))
    ∙ get_or_append_left bs (get_or bs s false ∷ []) false t h

-- a place that came with a fork is in the set where the place that was split is
with_forks-climb : (fs : List ℕ) (bs : List Bool) (i : ℕ) → i < length fs → get_or fs i 0 < length bs + i → get_or (with_forks bs fs) (length bs + i) false ≡ get_or (with_forks bs fs) (get_or fs i 0) false
unfolding with_forks with_fork
with_forks-climb [] bs i h g = absurd (omega arith)
with_forks-climb (s ∷ fs) bs zero h g =
    let more = bs ++ get_or bs s false ∷ [] in
    let long : length more ≡ length bs + 1 = length-append bs (get_or bs s false ∷ []) in
    let same : length bs + 0 ≡ length bs = omega arith in
    let inside : s < length bs = omega arith in
    ap (λ t. get_or (with_forks more fs) t false) same
    ∙ with_forks-front fs more (length bs) (omega (arith, long))
    ∙ get_or_at bs (get_or bs s false) [] false (length bs) refl
    ∙ sym (get_or_append_left bs (get_or bs s false ∷ []) false s inside)
    ∙ sym (with_forks-front fs more s (omega (arith, long)))
with_forks-climb (s ∷ fs) bs (suc i) h g =
    let more = bs ++ get_or bs s false ∷ [] in
    let long : length more ≡ length bs + 1 = length-append bs (get_or bs s false ∷ []) in
    let same : length bs + suc i ≡ length more + i = omega (arith, long) in
    ap (λ t. get_or (with_forks more fs) t false) same ∙ with_forks-climb fs more i (omega arith) (omega (arith, long, g))

there_at : (n : ℕ) (fs : List ℕ) (i : ℕ) → AreThere n fs → i < length fs → get_or fs i 0 < n + i
there_at n [] i h g = absurd (omega arith)
there_at n (s ∷ fs) zero h g = omega (arith, h.0)
there_at n (s ∷ fs) (suc i) h g = let w = there_at (n + 1) fs i h.1 (omega arith) in omega (arith, w)

pub fork_below : (fs : List ℕ) (t : ℕ) → IsLog fs → 0 < t → t < length fs + 1 → get_or fs (t - 1) 0 < t
fork_below fs t l h g = let w = there_at 1 fs (t - 1) l (omega arith) in omega (arith, w)

pub climb : (fs : List ℕ) (bs : List Bool) (t : ℕ) → IsLog fs → 0 < length bs → length bs ≤ t → t < length fs + 1 → get_or (at_end fs bs) t false ≡ get_or (at_end fs bs) (get_or fs (t - 1) 0) false
climb fs bs t l some h g =
    let k = length bs - 1 in
    let i = t - length bs in
    let split : get_or (drop k fs) i 0 ≡ get_or fs (t - 1) 0 = get_or-drop k fs i 0 ∙ ap (λ j. get_or fs j 0) (omega arith) in
    let place : t ≡ length bs + i = omega arith in
    let below = fork_below fs t l (omega arith) g in
    let early = at_end-early fs bs (omega arith) in
    ap (λ (c : List Bool). get_or c t false) early
    ∙ ap (λ j. get_or (with_forks bs (drop k fs)) j false) place
    ∙ with_forks-climb (drop k fs) bs i (omega (arith, length-drop k fs)) (omega (arith, split, below))
    ∙ ap (λ j. get_or (with_forks bs (drop k fs)) j false) split
    ∙ ap (λ (c : List Bool). get_or c (get_or fs (t - 1) 0) false) (sym early)

pub climbed : (fs : List ℕ) (bs : List Bool) (t : ℕ) → t < length bs → t < length fs + 1 → get_or (at_end fs bs) t false ≡ get_or bs t false
unfolding at_end
climbed fs bs t h g =
    with_forks-front (drop (length bs - 1) fs) (take (length fs + 1) bs) t (omega (arith, length-take (length fs + 1) bs))
    ∙ get_or-take (length fs + 1) bs t false g

-- a step of the loop over the forks, and its end
pub fork_step : (bs made : List Bool) (fs : List ℕ) (i : ℕ) (b : Bool) → i < length fs → made ≡ bs ++ b ∷ [] → b ≡ get_or bs (get_or fs i 0) false → with_forks made (drop (i + 1) fs) ≡ with_forks bs (drop i fs)
unfolding with_forks with_fork
fork_step bs made fs i b h e f =
    (λ j. with_forks ((e ∙ ap (λ x. bs ++ x ∷ []) f) j) (drop (i + 1) fs))
    ∙ ap (with_forks bs) (sym (drop_more fs i 0 h))

pub fork_done : (bs : List Bool) (fs : List ℕ) (i : ℕ) → length fs ≤ i → with_forks bs (drop i fs) ≡ bs
unfolding with_forks
fork_done bs fs i h = ap (with_forks bs) (drop_all i fs h)

-- ---- has

pub place_in-absent : (ns : List Name) (q : Name) → has ns q ≡ false → place_in ns q ≡ length ns
place_in-absent [] q h = refl
place_in-absent (p ∷ ns) q h = go (name_eq q p) refl h (λ k. place_in-absent ns q k)
  where
    go : (b : Bool) → name_eq q p ≡ b → (b || has ns q) ≡ false → (has ns q ≡ false → place_in ns q ≡ length ns) → cond b 0 (place_in ns q + 1) ≡ suc (length ns)
    go true e k ih = absurd (true≢false k)
    go false e k ih = let w = ih k in omega (arith, w)

joined : (cs bs : List Bool) → result_of Join cs bs ≡ either cs bs
joined [] bs = refl
joined (c ∷ cs) [] = refl
joined (c ∷ cs) (b ∷ bs) = ap (λ l. (c || b) ∷ l) (joined cs bs)

met : (cs bs : List Bool) → result_of Meet cs bs ≡ both cs bs
met [] bs = refl
met (c ∷ cs) [] = refl
met (c ∷ cs) (b ∷ bs) = ap (λ l. (c && b) ∷ l) (met cs bs)

left : (cs bs : List Bool) → result_of Minus cs bs ≡ first_alone cs bs
left [] bs = refl
left (c ∷ cs) [] = refl
left (c ∷ cs) (b ∷ bs) = ap (λ l. (c && not b) ∷ l) (left cs bs)

absorbed : (a b : Bool) → (b ≡ false → a ≡ false) → (a && b) ≡ a
absorbed true true h = refl
absorbed true false h = sym (h refl)
absorbed false b h = refl

length-sorted : (ns : List Name) → AreDistinct ns → length (join ns []) ≡ length ns
length-sorted [] d = refl
length-sorted (p ∷ ns) d = length-add p (join ns []) (has-sorted ns p ∙ d.0) ∙ ap suc (length-sorted ns d.1)

-- ---- no place

none_more : (n s : ℕ) → with_fork (replicate n false) s ≡ replicate (n + 1) false
unfolding with_fork
none_more n s = ap (λ b. replicate n false ++ b ∷ []) (nothing n s) ∙ replicate_more n false
  where
    nothing : (n s : ℕ) → get_or (replicate n false) s false ≡ false
    nothing zero s = refl
    nothing (suc n) zero = refl
    nothing (suc n) (suc s) = nothing n s

none_after : (fs : List ℕ) (n : ℕ) → with_forks (replicate n false) fs ≡ replicate (n + length fs) false
unfolding with_forks
none_after [] n = let e : n ≡ n + 0 = omega arith in ap (λ k. replicate k false) e
none_after (s ∷ fs) n =
    let e : (n + 1) + length fs ≡ n + suc (length fs) = omega arith in
    ap (λ bs. with_forks bs fs) (none_more n s) ∙ none_after fs (n + 1) ∙ ap (λ k. replicate k false) e

picked-none : (n : ℕ) (ns : List Name) → picked (replicate n false) ns ≡ []
unfolding picked
picked-none zero ns = refl
picked-none (suc n) [] = refl
picked-none (suc n) (p ∷ ns) = picked-none n ns

-- the first label stands for no process
pub stands-none : (fs : List ℕ) → stands_for fs (false ∷ []) ≡ []
stands-none fs =
    ap (λ bs. join (picked bs (names_of fs)) []) (at_end-early fs (false ∷ []) (omega arith) ∙ none_after fs 1)
    ∙ ap (λ l. join l []) (picked-none (1 + length fs) (names_of fs))

-- ---- is there a place

added : (p : Name) (l : List Name) → is_empty (add p l) ≡ false
added p [] = refl
added p (q ∷ l) = go (name_cmp p q)
  where
    go : (o : Ordering) → is_empty (by_order o (p ∷ q ∷ l) (q ∷ l) (q ∷ add p l)) ≡ false
    go Less = refl
    go Equal = refl
    go Greater = refl

pub empty-picked : (bs : List Bool) (ns : List Name) → length bs ≡ length ns → is_empty (join (picked bs ns) []) ≡ none_in bs
unfolding picked
empty-picked [] [] h = refl
empty-picked [] (p ∷ ns) h = absurd (omega arith)
empty-picked (b ∷ bs) [] h = absurd (omega arith)
empty-picked (true ∷ bs) (p ∷ ns) h = added p (join (picked bs ns) [])
empty-picked (false ∷ bs) (p ∷ ns) h = empty-picked bs ns (omega arith)

none-push : (bs : List Bool) (b : Bool) → none_in (bs ++ b ∷ []) ≡ (none_in bs && not b)
none-push [] true = refl
none-push [] false = refl
none-push (true ∷ bs) b = refl
none-push (false ∷ bs) b = none-push bs b

none-get : (bs : List Bool) (s : ℕ) → none_in bs ≡ true → get_or bs s false ≡ false
none-get [] s e = refl
none-get (true ∷ bs) s e = absurd (true≢false (sym e))
none-get (false ∷ bs) zero e = refl
none-get (false ∷ bs) (suc s) e = none-get bs s e

none-with_fork : (bs : List Bool) (s : ℕ) → none_in (with_fork bs s) ≡ none_in bs
unfolding with_fork
none-with_fork bs s = none-push bs (get_or bs s false) ∙ go (none_in bs) (get_or bs s false) (none-get bs s)
  where
    go : (n b : Bool) → (n ≡ true → b ≡ false) → (n && not b) ≡ n
    go true b h = ap not (h refl)
    go false b h = refl

none-with_forks : (fs : List ℕ) (bs : List Bool) → none_in (with_forks bs fs) ≡ none_in bs
unfolding with_forks
none-with_forks [] bs = refl
none-with_forks (s ∷ fs) bs = none-with_forks fs (with_fork bs s) ∙ none-with_fork bs s

-- forks leave a set empty or not
pub none-at_end : (fs : List ℕ) (bs : List Bool) → length bs ≤ length fs + 1 → none_in (at_end fs bs) ≡ none_in bs
none-at_end fs bs h = ap none_in (at_end-early fs bs h) ∙ none-with_forks (drop (length bs - 1) fs) bs

module _ (fs : List ℕ) (l : IsLog fs) where
  distinct : AreDistinct (names_of fs)
  distinct = (good-log fs l).distinct

  has-place_in : (bs : List Bool) (q : Name) (b : Bool) → length bs ≡ length (names_of fs) → has (names_of fs) q ≡ b → get_or bs (place_in (names_of fs) q) false ≡ has (picked bs (names_of fs)) q
  has-place_in bs q true h e =
      let w = place_in-there (names_of fs) q e in
      sym (has-place bs (names_of fs) (place_in (names_of fs) q) h w.0 distinct) ∙ ap (has (picked bs (names_of fs))) w.1
  has-place_in bs q false h e =
      ap (λ s. get_or bs s false) (place_in-absent (names_of fs) q e)
      ∙ get_or_past bs (length (names_of fs)) false (omega (arith, h))
      ∙ sym (picked-absent bs (names_of fs) q e)

  long : (bs : List Bool) → 0 < length bs → length (at_end fs bs) ≡ length (names_of fs)
  long bs h = length-at_end fs bs h ∙ sym (length-names_of fs)

  pub has-stands : (bs : List Bool) (q : Name) → 0 < length bs → get_or (at_end fs bs) (place_in (names_of fs) q) false ≡ has (stands_for fs bs) q
  has-stands bs q h = has-place_in (at_end fs bs) q (has (names_of fs) q) (long bs h) refl ∙ sym (has-sorted (picked (at_end fs bs) (names_of fs)) q)

  -- ---- the operations

  pub stands-add : (bs : List Bool) (p : Name) → 0 < length bs → has (living_of fs) p ≡ true → stands_for fs (set (at_end fs bs) (place_in (names_of fs) p) true) ≡ add p (stands_for fs bs)
  stands-add bs p h k =
      let s = place_in (names_of fs) p in
      let w = place_in-there (names_of fs) p (sym (has-sorted (names_of fs) p) ∙ k) in
      let inside : s < length (at_end fs bs) = omega (arith, w.0, long bs h) in
      let put = set (at_end fs bs) s true in
      let full : length put ≡ length fs + 1 = length-set (at_end fs bs) s true ∙ length-at_end fs bs h in
      ap (λ c. join (picked c (names_of fs)) []) (at_end-full fs put full)
      ∙ same_names (join (picked put (names_of fs)) []) (add p (stands_for fs bs)) (sorted (picked put (names_of fs))) (ordered-add p (stands_for fs bs) (sorted (picked (at_end fs bs) (names_of fs))))
      (λ q.
      has-sorted (picked put (names_of fs)) q
      ∙ has-set (at_end fs bs) (names_of fs) s q inside w.0
      ∙ ap₂ (λ r x. name_eq q r || x) w.1 (sym (has-sorted (picked (at_end fs bs) (names_of fs)) q))
      ∙ sym (has-add p (stands_for fs bs) q))

  same_long : (cs bs : List Bool) → 0 < length cs → 0 < length bs → length (at_end fs cs) ≡ length (at_end fs bs)
  same_long cs bs h g = long cs h ∙ sym (long bs g)

  -- what an operation makes is at the end of the log
  pub length-made : (op : Operation) (cs bs : List Bool) → 0 < length cs → 0 < length bs → length (result_of op (at_end fs cs) (at_end fs bs)) ≡ length fs + 1
  length-made op cs bs h g = length-result_of op (at_end fs cs) (at_end fs bs) (same_long cs bs h g) ∙ length-at_end fs cs h

  -- from what it picks to the names in their order
  made : (op : Operation) (cs bs : List Bool) (m : List Name) → 0 < length cs → 0 < length bs → IsInNameOrder m
      → ((q : Name) → has (picked (result_of op (at_end fs cs) (at_end fs bs)) (names_of fs)) q ≡ has m q)
      → stands_for fs (result_of op (at_end fs cs) (at_end fs bs)) ≡ m
  made op cs bs m h g o f =
      let r = result_of op (at_end fs cs) (at_end fs bs) in
      ap (λ c. join (picked c (names_of fs)) []) (at_end-full fs r (length-made op cs bs h g))
      ∙ same_names (join (picked r (names_of fs)) []) m (sorted (picked r (names_of fs))) o (λ q. has-sorted (picked r (names_of fs)) q ∙ f q)

  pub stands-join : (cs bs : List Bool) → 0 < length cs → 0 < length bs → stands_for fs (result_of Join (at_end fs cs) (at_end fs bs)) ≡ join (stands_for fs cs) (stands_for fs bs)
  stands-join cs bs h g =
      made Join cs bs (join (stands_for fs cs) (stands_for fs bs)) h g (ordered-join (stands_for fs cs) (stands_for fs bs) (sorted (picked (at_end fs bs) (names_of fs))))
      (λ q.
      ap (λ c. has (picked c (names_of fs)) q) (joined (at_end fs cs) (at_end fs bs))
      ∙ has-either (at_end fs cs) (at_end fs bs) (names_of fs) q (same_long cs bs h g)
      ∙ ap₂ ◌||◌ (sym (has-sorted (picked (at_end fs cs) (names_of fs)) q)) (sym (has-sorted (picked (at_end fs bs) (names_of fs)) q))
      ∙ sym (has-join (stands_for fs cs) (stands_for fs bs) q))

  pub stands-meet : (cs bs : List Bool) → 0 < length cs → 0 < length bs → stands_for fs (result_of Meet (at_end fs cs) (at_end fs bs)) ≡ meet (stands_for fs cs) (stands_for fs bs)
  stands-meet cs bs h g =
      made Meet cs bs (meet (stands_for fs cs) (stands_for fs bs)) h g (ordered-filter (has (stands_for fs bs)) (stands_for fs cs) (sorted (picked (at_end fs cs) (names_of fs))))
      (λ q.
      ap (λ c. has (picked c (names_of fs)) q) (met (at_end fs cs) (at_end fs bs))
      ∙ has-both (at_end fs cs) (at_end fs bs) (names_of fs) q (same_long cs bs h g) distinct
      ∙ ap₂ ◌&&◌ (sym (has-sorted (picked (at_end fs bs) (names_of fs)) q)) (sym (has-sorted (picked (at_end fs cs) (names_of fs)) q))
      ∙ sym (has-meet (stands_for fs cs) (stands_for fs bs) q))

  pub stands-minus : (cs bs : List Bool) → 0 < length cs → 0 < length bs → stands_for fs (result_of Minus (at_end fs cs) (at_end fs bs)) ≡ minus (stands_for fs cs) (stands_for fs bs)
  stands-minus cs bs h g =
      made Minus cs bs (minus (stands_for fs cs) (stands_for fs bs)) h g (ordered-filter (λ p. not (has (stands_for fs bs) p)) (stands_for fs cs) (sorted (picked (at_end fs cs) (names_of fs))))
      (λ q.
      ap (λ c. has (picked c (names_of fs)) q) (left (at_end fs cs) (at_end fs bs))
      ∙ has-alone (at_end fs cs) (at_end fs bs) (names_of fs) q (same_long cs bs h g) distinct
      ∙ ap₂ (λ x y. not x && y) (sym (has-sorted (picked (at_end fs bs) (names_of fs)) q)) (sym (has-sorted (picked (at_end fs cs) (names_of fs)) q))
      ∙ sym (has-minus (stands_for fs cs) (stands_for fs bs) q))

  -- the living names that a label has are those for which it stands
  pub stands-filter : (bs : List Bool) → filter (has (stands_for fs bs)) (living_of fs) ≡ stands_for fs bs
  stands-filter bs =
      same_names (filter (has (stands_for fs bs)) (living_of fs)) (stands_for fs bs) (ordered-filter (has (stands_for fs bs)) (living_of fs) (sorted (names_of fs))) (sorted (picked (at_end fs bs) (names_of fs)))
      (λ q. has-filter (has (stands_for fs bs)) (living_of fs) q ∙ absorbed (has (stands_for fs bs) q) (has (living_of fs) q) (λ e.
      has-sorted (picked (at_end fs bs) (names_of fs)) q ∙ picked-absent (at_end fs bs) (names_of fs) q (sym (has-sorted (names_of fs) q) ∙ e)))

  -- as many processes live as there are places
  pub length-living : length (living_of fs) ≡ length fs + 1
  length-living = length-sorted (names_of fs) distinct ∙ length-names_of fs

  pub stands-empty : (bs : List Bool) → 0 < length bs → none_in (at_end fs bs) ≡ is_empty (stands_for fs bs)
  stands-empty bs h = sym (empty-picked (at_end fs bs) (names_of fs) (long bs h))

-- What a binary search in a list of names answers.
use Rattle.std.specs.Prelude.{ℕ, List, [], ◌∷◌, Bool, true, false, ◌||◌, not, cond, ◌≡◌, refl, length, suc, zero, ◌<◌, ◌≤◌, ◌-◌, insert, remove, is_ok, Result, Ok, Err, IfOk, IfErr}
use Rattle.std.proofs.Common.{ap, ap₂, add-one, subst, sym, ◌∙◌, arith, get_or}
use mathlib.Core.Bool.{true≢false}
use Rattle.std.proofs.lemmas.List.{get_or_default}
use Rattle.std.specs.declared.cmp.Ordering.{Ordering}
use Rattle.std.specs.Ordering.{is_eq, is_lt, is_gt, ordering_index}
use Rattle.std.specs.List.Sorted.{IsSorted, IsNonDecreasingBy, IsPartitionPoint, IsBinarySearchResult, IsSearchInRange}
use Rattle.std.proofs.lemmas.List.Sorted.{searchable_from_sorted}
use Rattle.std.specs.declared.cmp.Ordering.TheVariants.{Less, Equal, Greater}
use Rattle.std.proofs.Math.Bool.{or-true}
use Rattle.kb_label.specs.Kept.{AreBefore, AreAfter, IsPlaceOf}
use Rattle.kb_label.specs.Names.{Name, name_cmp, name_eq, has, add, minus, by_order, IsInNameOrder}
use Rattle.kb_label.specs.NameOrder.{name_cmp-total, name_cmp-equal, name_eq-by_cmp}
use Rattle.kb_label.proofs.Ordered.{turned, turned_back, rest, lower, before-absent, add-later, minus-absent}
use Rattle.kb_label.proofs.Members.{name_eq-refl, name_eq-eq}

adjacent : (l : List Name) → IsInNameOrder l → (k : ℕ) (d : Name) → suc k < length l → name_cmp (get_or l k d) (get_or l (suc k) d) ≡ Less
adjacent [] o k d h = absurd (omega arith)
adjacent (p ∷ []) o k d h = absurd (omega arith)
adjacent (p ∷ q ∷ l) o zero d h = o.0
adjacent (p ∷ q ∷ l) o (suc k) d h = adjacent (q ∷ l) o.1 k d (omega arith)

sorted : (l : List Name) → IsInNameOrder l → IsSorted name_cmp l
sorted l o k d h w =
    rw add-one (ap is_lt (turned_back (get_or l k d) (get_or l (suc k) d) (adjacent l o k d (omega arith))))

-- the answers of the search rise
pub searchable : (l : List Name) (p : Name) → IsInNameOrder l → IsNonDecreasingBy (λ q. ordering_index (name_cmp q p)) l
searchable l p o = searchable_from_sorted name_cmp-total (λ q. q) l p (sorted l o)

-- a name that stands somewhere
pub at-has : (l : List Name) (p : Name) (k : ℕ) → k < length l → get_or l k p ≡ p → has l p ≡ true
at-has [] p k h e = absurd (omega arith)
at-has (q ∷ l) p zero h e = ap (λ b. b || has l p) (ap (name_eq p) e ∙ name_eq-refl p)
at-has (q ∷ l) p (suc k) h e = ap (λ b. name_eq p q || b) (at-has l p k (omega arith) e) ∙ or-true (name_eq p q)

-- a name that is there is not added again
pub add-present : (p : Name) (l : List Name) → IsInNameOrder l → has l p ≡ true → add p l ≡ l
add-present p [] o h = absurd (true≢false (sym h))
add-present p (q ∷ l) o h = go (name_cmp p q) refl (add-present p l (rest q l o))
  where
    go : (k : Ordering) → name_cmp p q ≡ k → (has l p ≡ true → add p l ≡ l) → by_order k (p ∷ q ∷ l) (q ∷ l) (q ∷ add p l) ≡ q ∷ l
    go Less e ih = absurd (true≢false (sym h ∙ before-absent p (q ∷ l) (lower p q l e o)))
    go Equal e ih = refl
    go Greater e ih = ap (q ∷◌) (ih (rw (name_eq-by_cmp p q ∙ ap is_eq e) at h))

-- the name that stands at a place is taken out there
remove-place : (l : List Name) (p : Name) (k : ℕ) → IsInNameOrder l → k < length l → get_or l k p ≡ p → remove l k ≡ minus l (p ∷ [])
remove-place [] p k o h e = absurd (omega arith)
remove-place (q ∷ l) p zero o h e = go (name_eq q p) (ap (name_eq q) (sym e) ∙ name_eq-refl q)
  where
    go : (b : Bool) → b ≡ true → l ≡ cond (not (b || false)) (q ∷ minus l (p ∷ [])) (minus l (p ∷ []))
    go true w = sym (minus-absent p l (before-absent p l (subst (λ r. IsInNameOrder (r ∷ l)) e o)))
    go false w = absurd (true≢false (sym w))
remove-place (q ∷ l) p (suc k) o h e = go (name_eq q p) refl (remove-place l p k (rest q l o) (omega arith) e)
  where
    go : (b : Bool) → name_eq q p ≡ b → remove l k ≡ minus l (p ∷ []) → remove (q ∷ l) (suc k) ≡ cond (not (b || false)) (q ∷ minus l (p ∷ [])) (minus l (p ∷ []))
    go true w ih = absurd (true≢false (sym (at-has l p k (omega arith) e) ∙ before-absent p l (subst (λ r. IsInNameOrder (r ∷ l)) (name_eq-eq q p w) o)))
    go false w ih = ap (q ∷◌) ih

module _ (p : Name) where
  -- the names below the place come before p, and the others after it
  pub record IsPlace (l : List Name) (k : ℕ) : Type 0 where
    pub within : k ≤ length l
    pub below : (i : ℕ) (d : Name) → i < k → name_cmp (get_or l i d) p ≡ Less
    pub above : (i : ℕ) (d : Name) → k ≤ i → i < length l → name_cmp (get_or l i d) p ≡ Greater

  later : (q : Name) (l : List Name) (k : ℕ) → IsPlace (q ∷ l) (suc k) → IsPlace l k
  later q l k h = record {
    within = omega (arith, h.within);
    below = λ i d w. h.below (suc i) d (omega arith);
    above = λ i d w v. h.above (suc i) d (omega arith) (omega arith);
  }

  neither : (q : Name) (l : List Name) → is_eq (name_cmp p q) ≡ false → has l p ≡ false → has (q ∷ l) p ≡ false
  neither q l e h = ap₂ ◌||◌ (name_eq-by_cmp p q ∙ e) h

  pub insert-place : (l : List Name) (k : ℕ) → IsPlace l k → insert l k p ≡ add p l
  insert-place [] zero h = refl
  insert-place [] (suc k) h = absurd (omega (arith, h.within))
  insert-place (q ∷ l) zero h = sym (ap (λ o. by_order o (p ∷ q ∷ l) (q ∷ l) (q ∷ add p l)) (turned q p (h.above 0 p (omega arith) (omega arith))))
  insert-place (q ∷ l) (suc k) h = ap (q ∷◌) (insert-place l k (later q l k h)) ∙ sym (add-later p q l (turned_back q p (h.below 0 p (omega arith))))

  pub place-absent : (l : List Name) (k : ℕ) → IsPlace l k → has l p ≡ false
  place-absent [] k h = refl
  place-absent (q ∷ l) zero h =
      neither q l (ap is_eq (turned q p (h.above 0 p (omega arith) (omega arith)))) (place-absent l zero (record {
        within = omega arith;
        below = λ i d w. absurd (omega arith);
        above = λ i d w v. h.above (suc i) d (omega arith) (omega arith);
      }))
  place-absent (q ∷ l) (suc k) h =
      neither q l (ap is_eq (turned_back q p (h.below 0 p (omega arith)))) (place-absent l k (later q l k h))

-- ---- what the search answers

module _ (l : List Name) (p : Name) (o : IsInNameOrder l) where
  placed : (k : ℕ) → k ≤ length l → IsPartitionPoint (λ q. name_cmp q p ≡ Less) (λ q. name_cmp q p ≡ Greater) l k → IsPlace p l k
  placed k w h = record { within = w; below = λ i d v. h.0 i d (omega arith) v; above = λ i d v u. h.1 i d v u }

  pub search-found : (r : Result ℕ ℕ) → IsSearchInRange r (length l) → IsBinarySearchResult (λ q. name_cmp q p) l r → is_ok r ≡ has l p
  search-found (Ok k) w h = sym (at-has l p k w (name_cmp-equal (get_or l k p) p (h p)))
  search-found (Err k) w h = sym (place-absent p l k (placed k w (h (searchable l p o))))

  pub search-present : (r : Result ℕ ℕ) → IsSearchInRange r (length l) → IsBinarySearchResult (λ q. name_cmp q p) l r → IfOk r (λ _. add p l ≡ l)
  search-present (Ok k) w h = add-present p l o (at-has l p k w (name_cmp-equal (get_or l k p) p (h p)))
  search-present (Err k) w h = tt

  search-there : (r : Result ℕ ℕ) → IsSearchInRange r (length l) → IfOk r (λ k. k < length l)
  search-there (Ok k) w = w
  search-there (Err k) w = tt

  pub search-left : (r : Result ℕ ℕ) → IsSearchInRange r (length l) → IsBinarySearchResult (λ q. name_cmp q p) l r → IfOk r (λ k. remove l k ≡ minus l (p ∷ []))
  search-left (Ok k) w h = remove-place l p k o w (name_cmp-equal (get_or l k p) p (h p))
  search-left (Err k) w h = tt

  search-within : (r : Result ℕ ℕ) → IsSearchInRange r (length l) → IfErr r (λ k. k ≤ length l)
  search-within (Ok k) w = tt
  search-within (Err k) w = w

  pub search-absent : (r : Result ℕ ℕ) → IsSearchInRange r (length l) → IsBinarySearchResult (λ q. name_cmp q p) l r → IfErr r (λ k. insert l k p ≡ add p l)
  search-absent (Ok k) w h = tt
  search-absent (Err k) w h = insert-place p l k (placed k w (h (searchable l p o)))

  -- a search by the order of names answers the place of the name
  pub search-place : (r : Result ℕ ℕ) → IsSearchInRange r (length l) → IsBinarySearchResult (λ q. name_cmp q p) l r → IsPlaceOf l p r
  search-place r w h = record {
    found = search-found r w h;
    present = search-present r w h;
    there = search-there r w;
    left = search-left r w h;
    within = search-within r w;
    absent = search-absent r w h;
  }

-- ---- a place that is tried first

index-less : (o : Ordering) → ordering_index o ≤ ordering_index Less → o ≡ Less
index-less Less h = refl
index-less Equal h = absurd (omega (arith, h))
index-less Greater h = absurd (omega (arith, h))

index-greater : (o : Ordering) → ordering_index Greater ≤ ordering_index o → o ≡ Greater
index-greater Less h = absurd (omega (arith, h))
index-greater Equal h = absurd (omega (arith, h))
index-greater Greater h = refl

module _ (l : List Name) (p : Name) (o : IsInNameOrder l) where
  -- where the name before the place comes before p, so do all before the place
  pub before-place : (k : ℕ) (e : Name) → 0 < k → k ≤ length l → name_cmp (get_or l (k - 1) e) p ≡ Less → AreBefore l k p
  before-place k e n w h = (w, λ i d v. index-less (name_cmp (get_or l i d) p) (subst (λ x. ordering_index (name_cmp (get_or l i d) p) ≤ ordering_index x) (same d) (searchable l p o i (k - 1) d (omega arith) (omega arith))))
    where
      same : (d : Name) → name_cmp (get_or l (k - 1) d) p ≡ Less
      same d = ap (λ q. name_cmp q p) (get_or_default l (k - 1) d e (omega arith)) ∙ h

  -- where the name at the place comes after p, so do all from the place on
  pub after-place : (k : ℕ) (e : Name) → k < length l → name_cmp (get_or l k e) p ≡ Greater → AreAfter l k p
  after-place k e w h = λ i d v u. index-greater (name_cmp (get_or l i d) p) (subst (λ x. ordering_index x ≤ ordering_index (name_cmp (get_or l i d) p)) (same d) (searchable l p o k i d (omega arith) (omega arith)))
    where
      same : (d : Name) → name_cmp (get_or l k d) p ≡ Greater
      same d = ap (λ q. name_cmp q p) (get_or_default l k d e (omega arith)) ∙ h

-- what no name before a place is and no name from it on is not there
pub between-absent : (l : List Name) (p : Name) (k : ℕ) → AreBefore l k p → AreAfter l k p → has l p ≡ false
between-absent l p k b a = place-absent p l k (record { within = b.0; below = b.1; above = a })

pub equal-told : (o : Ordering) → is_eq o ≡ true → o ≡ Equal
equal-told Less h = absurd (true≢false (sym h))
equal-told Equal h = refl
equal-told Greater h = absurd (true≢false (sym h))

pub less-told : (o : Ordering) → is_lt o ≡ true → o ≡ Less
less-told Less h = refl
less-told Equal h = absurd (true≢false (sym h))
less-told Greater h = absurd (true≢false (sym h))

pub greater-told : (o : Ordering) → is_gt o ≡ true → o ≡ Greater
greater-told Less h = absurd (true≢false (sym h))
greater-told Equal h = absurd (true≢false (sym h))
greater-told Greater h = refl

-- Lists that are kept in the order of their numbers, when an element comes or goes.
use Rattle.std.proofs.lemmas.Bool.{eqb-true}
use Rattle.std.proofs.Common.{ℕ, zero, suc, ◌<◌, ◌≤◌, ◌≡◌, refl, sym, ap, ap₂, ◌∙◌, subst, arith, List, [], ◌∷◌, length, map, filter, get_or, cond, Bool, true, false}
use Rattle.std.specs.Prelude.{◌||◌, ◌&&◌, not, ◌==◌, insert, remove, Result, Ok, Err}
use Rattle.std.specs.Ordering.{nat_cmp}
use Rattle.std.specs.List.Sorted.{IsBinarySearchResult}
use Rattle.std.proofs.lemmas.List.{length-map}
use Rattle.std.proofs.lemmas.List.Edits.{length-insert}
use Rattle.std.proofs.lemmas.List.Elements.{filter_agree, filter_passes}
use Rattle.std.proofs.lemmas.List.Sorted.{searched}
use Rattle.mkb_model.specs.Plain.{numbers_from}
use Rattle.mkb_rules.proofs.Listing.{rising, put_in, take_out, IsPlace}

-- ---- a test that answers otherwise for one number

-- the test that answers so for n, and as before for any other
abbrev pub answering : (ℕ → Bool) → ℕ → Bool → ℕ → Bool
answering has n t m = cond (m == n) t (has m)

module _ (has : ℕ → Bool) (n : ℕ) where
  with_n : (m : ℕ) → (has m || (m == n)) ≡ answering has n true m
  with_n m = go (has m) (m == n)
    where
      go : (a b : Bool) → (a || b) ≡ cond b true a
      go true true = refl
      go true false = refl
      go false true = refl
      go false false = refl

  without_n : (m : ℕ) → (has m && not (m == n)) ≡ answering has n false m
  without_n m = go (has m) (m == n)
    where
      go : (a b : Bool) → (a && not b) ≡ cond b false a
      go true true = refl
      go true false = refl
      go false true = refl
      go false false = refl

  -- an answer that it gives anyhow
  as_before : (t : Bool) → has n ≡ t → (m : ℕ) → has m ≡ answering has n t m
  as_before t e m = go (m == n) refl
    where
      go : (b : Bool) → (m == n) ≡ b → has m ≡ cond b t (has m)
      go true d = ap has (eqb-true m n d) ∙ e
      go false d = refl

module _ (has : ℕ → Bool) (n k : ℕ) (within : n < k) where
  put_at : (i : ℕ) → IsPlace n (filter has (numbers_from 0 k)) i → insert (filter has (numbers_from 0 k)) i n ≡ filter (answering has n true) (numbers_from 0 k)
  put_at i p = put_in has n 0 k i (omega arith) (omega (arith, within)) p ∙ filter_agree (λ m. has m || (m == n)) (answering has n true) (with_n has n) (numbers_from 0 k)

  taken_at : (i : ℕ) → i < length (filter has (numbers_from 0 k)) → get_or (filter has (numbers_from 0 k)) i 0 ≡ n → remove (filter has (numbers_from 0 k)) i ≡ filter (answering has n false) (numbers_from 0 k)
  taken_at i w is = take_out has n 0 k i w is ∙ filter_agree (λ m. has m && not (m == n)) (answering has n false) (without_n has n) (numbers_from 0 k)

  -- what has a place beside the others is none of them
  absent_at : (i : ℕ) → IsPlace n (filter has (numbers_from 0 k)) i → has n ≡ false
  absent_at i p = go (has n) refl
    where
      go : (b : Bool) → has n ≡ b → b ≡ false
      go false e = refl
      go true e =
          let same = put_at i p ∙ sym (filter_agree has (answering has n true) (as_before has n true e) (numbers_from 0 k)) in
          absurd (omega (arith, length-insert (filter has (numbers_from 0 k)) i n p.within, ap length same))

-- ---- elements with numbers

module _ {X : Type 0} (number : X → ℕ) (numbered : ℕ → X) (back : (m : ℕ) → number (numbered m) ≡ m) where
  number_at : (l : List X) (i d : ℕ) → get_or (map number l) i d ≡ number (get_or l i (numbered d))
  number_at [] i d = sym (back d)
  number_at (x ∷ l) zero d = refl
  number_at (x ∷ l) (suc i) d = number_at l i d

  number_in : (l : List X) (i : ℕ) (d : X) (e : ℕ) → i < length l → get_or (map number l) i e ≡ number (get_or l i d)
  number_in [] i d e h = absurd (omega (arith, h))
  number_in (x ∷ l) zero d e h = refl
  number_in (x ∷ l) (suc i) d e h = number_in l i d e (omega (arith, h))

  numbers_insert : (l : List X) (i : ℕ) (x : X) → map number (insert l i x) ≡ insert (map number l) i (number x)
  numbers_insert [] zero x = refl
  numbers_insert [] (suc i) x = refl
  numbers_insert (y ∷ l) zero x = refl
  numbers_insert (y ∷ l) (suc i) x = ap (λ (k : List ℕ). number y ∷ k) (numbers_insert l i x)

  numbers_remove : (l : List X) (i : ℕ) → map number (remove l i) ≡ remove (map number l) i
  numbers_remove [] zero = refl
  numbers_remove [] (suc i) = refl
  numbers_remove (y ∷ l) zero = refl
  numbers_remove (y ∷ l) (suc i) = ap (λ (k : List ℕ). number y ∷ k) (numbers_remove l i)

  -- what a search by the number tells of the numbers
  of_numbers : (l : List X) (n : ℕ) (r : Result ℕ ℕ) → IsBinarySearchResult (λ (y : X). nat_cmp (number y) n) l r → IsBinarySearchResult (λ (y : ℕ). nat_cmp y n) (map number l) r
  of_numbers l n (Ok i) h = λ d. ap (λ (m : ℕ). nat_cmp m n) (number_at l i d) ∙ h (numbered d)
  of_numbers l n (Err i) h = λ up.
      let parted = h (λ a b d le lt. rw (← number_in l a d 0 (omega (arith, le, lt)), ← number_in l b d 0 lt) (up a b 0 le (omega (arith, lt, length-map l number)))) in (
        λ k d v w. ap (λ (m : ℕ). nat_cmp m n) (number_at l k d) ∙ parted.0 k (numbered d) v w,
        λ k d v w. ap (λ (m : ℕ). nat_cmp m n) (number_at l k d) ∙ parted.1 k (numbered d) v (omega (arith, w, length-map l number)),
      )

  module _ (has : ℕ → Bool) (l : List X) (n k : ℕ) (is : map number l ≡ filter has (numbers_from 0 k)) (within : n < k) where
    up : (i j : ℕ) → i ≤ j → j < length (map number l) → get_or (map number l) i 0 ≤ get_or (map number l) j 0
    up = subst {A = List ℕ} (λ ks. (i j : ℕ) → i ≤ j → j < length ks → get_or ks i 0 ≤ get_or ks j 0) (sym is) (λ i j le lt. rising has 0 k i j 0 le lt)

    found : (i : ℕ) → IsBinarySearchResult (λ (y : X). nat_cmp (number y) n) l (Ok i) → (i < length (filter has (numbers_from 0 k))) × (get_or (filter has (numbers_from 0 k)) i 0 ≡ n)
    found i search = subst {A = List ℕ} (λ ks. (i < length ks) × (get_or ks i 0 ≡ n)) is (searched (map number l) n (Ok i) (of_numbers l n (Ok i) search) up)

    place : (i : ℕ) → IsBinarySearchResult (λ (y : X). nat_cmp (number y) n) l (Err i) → IsPlace n (filter has (numbers_from 0 k)) i
    place i search = subst {A = List ℕ} (λ ks. IsPlace n ks i) is (let at = searched (map number l) n (Err i) (of_numbers l n (Err i) search) up in record { within = at.0; below = at.1; above = at.2 })

    -- what has the number comes
    pub put : (x : X) (i : ℕ) → number x ≡ n → IsBinarySearchResult (λ (y : X). nat_cmp (number y) n) l (Err i) → map number (insert l i x) ≡ filter (answering has n true) (numbers_from 0 k)
    put x i e search = numbers_insert l i x ∙ ap₂ (λ (ks : List ℕ) (m : ℕ). insert ks i m) is e ∙ put_at has n k within i (place i search)

    -- it goes
    pub taken : (i : ℕ) → IsBinarySearchResult (λ (y : X). nat_cmp (number y) n) l (Ok i) → map number (remove l i) ≡ filter (answering has n false) (numbers_from 0 k)
    taken i search = numbers_remove l i ∙ ap (λ (ks : List ℕ). remove ks i) is ∙ taken_at has n k within i (found i search).0 (found i search).1

    -- it was there
    pub there : (i : ℕ) → IsBinarySearchResult (λ (y : X). nat_cmp (number y) n) l (Ok i) → map number l ≡ filter (answering has n true) (numbers_from 0 k)
    there i search = is ∙ filter_agree has (answering has n true) (as_before has n true (ap has (sym (found i search).1) ∙ filter_passes has (numbers_from 0 k) i 0 (found i search).0)) (numbers_from 0 k)

    -- it wasn't
    pub away : (i : ℕ) → IsBinarySearchResult (λ (y : X). nat_cmp (number y) n) l (Err i) → map number l ≡ filter (answering has n false) (numbers_from 0 k)
    away i search = is ∙ filter_agree has (answering has n false) (as_before has n false (absent_at has n k within i (place i search))) (numbers_from 0 k)

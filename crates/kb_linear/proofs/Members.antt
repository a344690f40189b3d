-- The interpretations that are tried: sorted by their numbers, and all that lie within the bounds.
use Rattle.std.proofs.Common.{ℕ, zero, suc, ◌+◌, ◌≤◌, ◌<◌, ◌≡◌, ◌⊎◌, inl, inr, ⊎_elim, refl, sym, ap, ap₂, ◌∙◌, subst, arith, List, [], ◌∷◌, ◌++◌, length, map, Contains, All, get_or}
use Rattle.std.specs.Prelude.{replicate, Some, None}
use Rattle.std.specs.List.{AllZip, range_with_len}
use Rattle.std.proofs.lemmas.Bool.{cases_lt}
use Rattle.std.proofs.lemmas.List.Elements.{Contains-append_cases}
use Rattle.std.proofs.lemmas.List.{length-replicate}
use Rattle.kb_lemmas.proofs.Membership.{contains_cases, contains_behind, split_at, contains_map, contains_flat_map, contains_flat_map_back}
use Rattle.kb_term.specs.First.{IsFirst}
use Rattle.kb_term.specs.Rule.{Rule}
use Rattle.kb_term.specs.Signature.{Signature, SymbolEntry}
use Rattle.kb_linear.specs.LinearOrder.{Interpretation, IsInterpretationOf}
use Rattle.kb_linear.specs.Interpretations.{choices, rows, interpretations_to, LinearOrients}
use Rattle.kb_linear.specs.Limits.{IsSmall}
use Rattle.kb_linear.specs.Numbers.{numbers_of, shape_of, uniform, IsWithin, IsLess}
use Rattle.kb_linear.proofs.Within.{within_lengths, tail_of, less_both, less_self}
use Rattle.kb_linear.proofs.Sorted.{IsSorted, IsListLess, AreSorted, sorted_flat_map, sorted_map, sorted_range, sorted_choices, sorted_before, sorted_after, contains_at, contains_map_back, contains_range, in_range, choices_from, choices_to}

-- the order of rows: by the constant, then by the coefficients
abbrev IsRowLess : ℕ × List ℕ → ℕ × List ℕ → Type 0
IsRowLess r q = (r.0 < q.0) ⊎ ((r.0 ≡ q.0) × IsListLess (λ x y. x < y) r.1 q.1)

one_two : IsSorted (λ x y. x < y) (1 ∷ 2 ∷ [])
one_two = (λ y c. ⊎_elim (λ e. omega arith) (λ d. absurd (omega arith)) (contains_cases 2 [] y c), (λ y c. absurd (omega arith), tt))

coefficients_sorted : (n : ℕ) → AreSorted (λ x y. x < y) (replicate n (1 ∷ 2 ∷ []))
coefficients_sorted zero = tt
coefficients_sorted (suc n) = (one_two, coefficients_sorted n)

rows_sorted : (top n : ℕ) → IsSorted IsRowLess (rows top n)
rows_sorted top n =
    let cs = choices (replicate n (1 ∷ 2 ∷ [])) in
    sorted_flat_map (λ x y. x < y) IsRowLess (λ c. map (λ ds. (c, ds)) cs) (range_with_len 0 (top + 1)) (sorted_range 0 (top + 1))
    (λ x c. sorted_map (IsListLess (λ x y. x < y)) IsRowLess (λ ds. (x, ds)) cs (sorted_choices (λ x y. x < y) (replicate n (1 ∷ 2 ∷ [])) (coefficients_sorted n)) (λ a b l. inr (refl, l)))
    (λ x z y w r c d.
    let p = contains_map_back (λ ds. (x, ds)) cs y c in
    let q = contains_map_back (λ ds. (z, ds)) cs w d in
    subst (λ v. IsRowLess v w) p.2 (subst (λ v. IsRowLess (x, p.0) v) q.2 (inl r)))

all_rows_sorted : (top : ℕ) (sig : Signature) → AreSorted IsRowLess (map (λ (f : SymbolEntry). rows top f.arity) sig)
all_rows_sorted top [] = tt
all_rows_sorted top (f ∷ sig) = (rows_sorted top f.arity, all_rows_sorted top sig)

tried_sorted : (sig : Signature) (top : ℕ) → IsSorted (IsListLess IsRowLess) (interpretations_to sig top)
tried_sorted sig top = sorted_choices IsRowLess (map (λ (f : SymbolEntry). rows top f.arity) sig) (all_rows_sorted top sig)

-- the order of members is that of their numbers
less_front : (xs ys zs bs : List ℕ) → length xs ≡ length ys → IsListLess (λ x y. x < y) xs ys → IsLess (xs ++ zs) (ys ++ bs)
less_front [] ys zs bs l h = absurd h
less_front (x ∷ xs) [] zs bs l h = absurd h
less_front (x ∷ xs) (y ∷ ys) zs bs l (inl h) = inl h
less_front (x ∷ xs) (y ∷ ys) zs bs l (inr h) = inr (h.0, less_front xs ys zs bs (omega arith) h.1)

less_behind : (xs zs bs : List ℕ) → IsLess zs bs → IsLess (xs ++ zs) (xs ++ bs)
less_behind [] zs bs h = h
less_behind (x ∷ xs) zs bs h = inr (refl, less_behind xs zs bs h)

numbers_less : (i j : Interpretation) → shape_of i ≡ shape_of j → IsListLess IsRowLess i j → IsLess (numbers_of i) (numbers_of j)
numbers_less [] j s h = absurd h
numbers_less (r ∷ i) [] s h = absurd h
numbers_less (r ∷ i) (q ∷ j) s (inl (inl h)) = inl h
numbers_less (r ∷ i) (q ∷ j) s (inl (inr h)) = let l : length r.1 ≡ length q.1 = cc in inr (h.0, less_front r.1 q.1 (numbers_of i) (numbers_of j) l h.1)
numbers_less (r ∷ i) (q ∷ j) s (inr h) =
    subst (λ (z : ℕ × List ℕ). IsLess (numbers_of (r ∷ i)) (numbers_of (z ∷ j))) h.0 (inr (refl, less_behind r.1 (numbers_of i) (numbers_of j) (numbers_less i j (ap tail_of s) h.1)))

-- a row is tried where its numbers lie within the bounds
coefficients_within : (n : ℕ) (cs : List ℕ) → AllZip (λ xs y. Contains xs y) (replicate n (1 ∷ 2 ∷ [])) cs → IsWithin (replicate n 1) (replicate n 2) cs
coefficients_within zero [] h = tt
coefficients_within zero (c ∷ cs) h = absurd h
coefficients_within (suc n) [] h = absurd h
coefficients_within (suc n) (c ∷ cs) h =
    let r : (1 ≤ c) × (c ≤ 2) = ⊎_elim (λ e. (omega arith, omega arith)) (λ d. ⊎_elim (λ e. (omega arith, omega arith)) (λ f. absurd (omega arith)) (contains_cases 2 [] c d)) (contains_cases 1 (2 ∷ []) c h.0) in
    (r.0, r.1, coefficients_within n cs h.1)

within_coefficients : (n : ℕ) (cs : List ℕ) → IsWithin (replicate n 1) (replicate n 2) cs → AllZip (λ xs y. Contains xs y) (replicate n (1 ∷ 2 ∷ [])) cs
within_coefficients zero [] h = tt
within_coefficients zero (c ∷ cs) h = absurd h
within_coefficients (suc n) [] h = absurd h
within_coefficients (suc n) (c ∷ cs) h = (⊎_elim (λ l. let e : 1 ≡ c = omega arith in (0, omega arith, e)) (λ l. let e : 2 ≡ c = omega arith in (1, omega arith, e)) (cases_lt c 2), within_coefficients n cs h.2)

pub record IsTriedRow (top n : ℕ) (row : ℕ × List ℕ) : Type 0 where
  pub constant : row.0 ≤ top
  pub within : IsWithin (replicate n 1) (replicate n 2) row.1

tried_row : (top n : ℕ) (row : ℕ × List ℕ) → Contains (rows top n) row → IsTriedRow top n row
tried_row top n row c =
    let r = contains_flat_map_back (λ x. map (λ cs. (x, cs)) (choices (replicate n (1 ∷ 2 ∷ [])))) (range_with_len 0 (top + 1)) row c in
    let q = contains_map_back (λ cs. (r.0, cs)) (choices (replicate n (1 ∷ 2 ∷ []))) row r.2 in
    let k = contains_range 0 (top + 1) r.0 r.1 in
    subst (IsTriedRow top n) q.2 (record { constant = omega arith; within = coefficients_within n q.0 (choices_from (replicate n (1 ∷ 2 ∷ [])) q.0 q.1) })

row_tried : (top n : ℕ) (row : ℕ × List ℕ) → IsTriedRow top n row → Contains (rows top n) row
row_tried top n row t =
    let k = t.constant in
    contains_flat_map (λ x. map (λ cs. (x, cs)) (choices (replicate n (1 ∷ 2 ∷ [])))) (range_with_len 0 (top + 1)) row.0 row (in_range 0 (top + 1) row.0 (omega arith) (omega arith))
    (contains_map (λ cs. (row.0, cs)) (choices (replicate n (1 ∷ 2 ∷ []))) row.1 (choices_to (replicate n (1 ∷ 2 ∷ [])) row.1 (within_coefficients n row.1 t.within)))

pub within_append : (ls ms xs zs bs ys : List ℕ) → IsWithin ls ms xs → IsWithin zs bs ys → IsWithin (ls ++ zs) (ms ++ bs) (xs ++ ys)
within_append [] [] [] zs bs ys h g = g
within_append [] [] (x ∷ xs) zs bs ys h g = absurd h
within_append [] (m ∷ ms) xs zs bs ys h g = absurd h
within_append (l ∷ ls) [] xs zs bs ys h g = absurd h
within_append (l ∷ ls) (m ∷ ms) [] zs bs ys h g = absurd h
within_append (l ∷ ls) (m ∷ ms) (x ∷ xs) zs bs ys h g = (h.0, h.1, within_append ls ms xs zs bs ys h.2 g)

within_front : (ls ms xs zs bs ys : List ℕ) → length ls ≡ length xs → length ms ≡ length xs → IsWithin (ls ++ zs) (ms ++ bs) (xs ++ ys) → IsWithin ls ms xs
within_front [] [] [] zs bs ys l m h = tt
within_front [] [] (x ∷ xs) zs bs ys l m h = absurd (omega arith)
within_front [] (n ∷ ms) [] zs bs ys l m h = absurd (omega arith)
within_front [] (n ∷ ms) (x ∷ xs) zs bs ys l m h = absurd (omega arith)
within_front (k ∷ ls) [] [] zs bs ys l m h = absurd (omega arith)
within_front (k ∷ ls) [] (x ∷ xs) zs bs ys l m h = absurd (omega arith)
within_front (k ∷ ls) (n ∷ ms) [] zs bs ys l m h = absurd (omega arith)
within_front (k ∷ ls) (n ∷ ms) (x ∷ xs) zs bs ys l m h = (h.0, h.1, within_front ls ms xs zs bs ys (omega arith) (omega arith) h.2)

within_behind : (ls ms xs zs bs ys : List ℕ) → length ls ≡ length xs → length ms ≡ length xs → IsWithin (ls ++ zs) (ms ++ bs) (xs ++ ys) → IsWithin zs bs ys
within_behind [] [] [] zs bs ys l m h = h
within_behind [] [] (x ∷ xs) zs bs ys l m h = absurd (omega arith)
within_behind [] (n ∷ ms) [] zs bs ys l m h = absurd (omega arith)
within_behind [] (n ∷ ms) (x ∷ xs) zs bs ys l m h = absurd (omega arith)
within_behind (k ∷ ls) [] [] zs bs ys l m h = absurd (omega arith)
within_behind (k ∷ ls) [] (x ∷ xs) zs bs ys l m h = absurd (omega arith)
within_behind (k ∷ ls) (n ∷ ms) [] zs bs ys l m h = absurd (omega arith)
within_behind (k ∷ ls) (n ∷ ms) (x ∷ xs) zs bs ys l m h = within_behind ls ms xs zs bs ys (omega arith) (omega arith) h.2

-- what is tried: the shape of the signature, and numbers within the bounds
pub record IsTried (sig : Signature) (top : ℕ) (i : Interpretation) : Type 0 where
  pub shape_is : shape_of i ≡ shape_of (uniform sig 0 1)
  pub within : IsWithin (numbers_of (uniform sig 0 1)) (numbers_of (uniform sig top 2)) (numbers_of i)

tried_rows : (sig : Signature) (top : ℕ) (i : Interpretation) → AllZip (λ xs y. Contains xs y) (map (λ (f : SymbolEntry). rows top f.arity) sig) i → IsTried sig top i
tried_rows [] top [] h = record { shape_is = refl; within = tt }
tried_rows [] top (row ∷ i) h = absurd h
tried_rows (f ∷ sig) top [] h = absurd h
tried_rows (f ∷ sig) top (row ∷ i) h =
    let r = tried_row top f.arity row h.0 in
    let n = within_lengths (replicate f.arity 1) (replicate f.arity 2) row.1 r.within in
    let t = tried_rows sig top i h.1 in
    record {
      shape_is = ap₂ (λ x xs. x ∷ xs) (sym n.0) t.shape_is;
      within = (omega arith, r.constant, within_append (replicate f.arity 1) (replicate f.arity 2) row.1 (numbers_of (uniform sig 0 1)) (numbers_of (uniform sig top 2)) (numbers_of i) r.within t.within);
    }

pub tried_from : (sig : Signature) (top : ℕ) (i : Interpretation) → Contains (interpretations_to sig top) i → IsTried sig top i
tried_from sig top i c = tried_rows sig top i (choices_from (map (λ (f : SymbolEntry). rows top f.arity) sig) i c)

abbrev head_of : List ℕ → ℕ
head_of [] = 0
head_of (x ∷ xs) = x

-- the first row of what is tried, and the others
head_length : (f : SymbolEntry) (sig : Signature) (row : ℕ × List ℕ) (i : Interpretation) (x : ℕ) → shape_of (row ∷ i) ≡ shape_of (uniform (f ∷ sig) 0 1) → length (replicate f.arity x) ≡ length row.1
head_length f sig row i x s = let e : length row.1 ≡ length (replicate {A = ℕ} f.arity 1) = ap head_of s in omega (arith, length-replicate {A = ℕ} f.arity 1, length-replicate f.arity x)

pub first_tried : (f : SymbolEntry) (sig : Signature) (top : ℕ) (row : ℕ × List ℕ) (i : Interpretation) → IsTried (f ∷ sig) top (row ∷ i) → IsTriedRow top f.arity row
first_tried f sig top row i t = record {
  constant = t.within.1;
  within = within_front (replicate f.arity 1) (replicate f.arity 2) row.1 (numbers_of (uniform sig 0 1)) (numbers_of (uniform sig top 2)) (numbers_of i) (head_length f sig row i 1 t.shape_is) (head_length f sig row i 2 t.shape_is) t.within.2;
}

pub others_tried : (f : SymbolEntry) (sig : Signature) (top : ℕ) (row : ℕ × List ℕ) (i : Interpretation) → IsTried (f ∷ sig) top (row ∷ i) → IsTried sig top i
others_tried f sig top row i t = record {
  shape_is = ap tail_of t.shape_is;
  within = within_behind (replicate f.arity 1) (replicate f.arity 2) row.1 (numbers_of (uniform sig 0 1)) (numbers_of (uniform sig top 2)) (numbers_of i) (head_length f sig row i 1 t.shape_is) (head_length f sig row i 2 t.shape_is) t.within.2;
}

rows_tried : (sig : Signature) (top : ℕ) (i : Interpretation) → IsTried sig top i → AllZip (λ xs y. Contains xs y) (map (λ (f : SymbolEntry). rows top f.arity) sig) i
rows_tried [] top [] t = tt
rows_tried [] top (row ∷ i) t = absurd (let e = t.shape_is in cc)
rows_tried (f ∷ sig) top [] t = absurd (let e = t.shape_is in cc)
rows_tried (f ∷ sig) top (row ∷ i) t = (row_tried top f.arity row (first_tried f sig top row i t), rows_tried sig top i (others_tried f sig top row i t))

pub tried_to : (sig : Signature) (top : ℕ) (i : Interpretation) → IsTried sig top i → Contains (interpretations_to sig top) i
tried_to sig top i t = choices_to (map (λ (f : SymbolEntry). rows top f.arity) sig) i (rows_tried sig top i t)

-- what is tried is small
small_coefficients : (n : ℕ) (cs : List ℕ) → IsWithin (replicate n 1) (replicate n 2) cs → All (λ c. (1 ≤ c) × (c ≤ 3)) cs
small_coefficients zero [] h k d p = absurd (omega arith)
small_coefficients zero (c ∷ cs) h k d p = absurd h
small_coefficients (suc n) [] h k d p = absurd h
small_coefficients (suc n) (c ∷ cs) h zero d p = (h.0, let q = h.1 in omega arith)
small_coefficients (suc n) (c ∷ cs) h (suc k) d p = small_coefficients n cs h.2 k d (omega arith)

pub tried_small : (sig : Signature) (top : ℕ) → top ≤ 3 → (i : Interpretation) → IsTried sig top i → IsSmall i
tried_small sig top l [] t k d p = absurd (omega arith)
tried_small [] top l (row ∷ i) t k d p = absurd (let e = t.shape_is in cc)
tried_small (f ∷ sig) top l (row ∷ i) t zero d p =
    let r = first_tried f sig top row i t in
    record { constant = let c = r.constant in omega arith; coefficients = small_coefficients f.arity row.1 r.within }
tried_small (f ∷ sig) top l (row ∷ i) t (suc k) d p = tried_small sig top l i (others_tried f sig top row i t) k d (omega arith)

-- the first that orients the rules, by the order of numbers
pub first_tried_of : (sig : Signature) (top : ℕ) (rules : List Rule) (i : Interpretation) → IsTried sig top i → LinearOrients i rules → ((j : Interpretation) → IsTried sig top j → IsLess (numbers_of j) (numbers_of i) → ¬ LinearOrients j rules) → IsFirst (λ j. LinearOrients j rules) (interpretations_to sig top) (Some i)
first_tried_of sig top rules i t o n =
    let r = split_at (interpretations_to sig top) i (tried_to sig top i t) in
    let s = subst (IsSorted (IsListLess IsRowLess)) r.2 (tried_sorted sig top) in (
      o,
      r.0,
      r.1,
      r.2,
      λ k d h.
          let j = get_or r.0 k d in
          let c = contains_at r.0 k d h in
          let m = tried_from sig top j (subst (λ z. Contains z j) (sym r.2) (in_front r.0 (i ∷ r.1) j c)) in
          n j m (numbers_less j i (m.shape_is ∙ sym t.shape_is) (sorted_before (IsListLess IsRowLess) r.0 r.1 i j s c)),
    )
  where
    in_front : (xs ys : List Interpretation) (j : Interpretation) → Contains xs j → Contains (xs ++ ys) j
    in_front [] ys j c = absurd (omega arith)
    in_front (x ∷ xs) ys j c = ⊎_elim (λ e. (0, omega arith, e)) (λ d. contains_behind x (xs ++ ys) j (in_front xs ys j d)) (contains_cases x xs j c)

pub none_tried_of : (sig : Signature) (top : ℕ) (rules : List Rule) → ((j : Interpretation) → IsTried sig top j → ¬ LinearOrients j rules) → IsFirst (λ j. LinearOrients j rules) (interpretations_to sig top) None
none_tried_of sig top rules n k d h = let j = get_or (interpretations_to sig top) k d in n j (tried_from sig top j (contains_at (interpretations_to sig top) k d h))

-- nothing less than a start orients the rules, where nothing before it does
pub none_less : (sig : Signature) (top : ℕ) (rules : List Rule) (start : Interpretation) (before after : List Interpretation) → interpretations_to sig top ≡ before ++ start ∷ after → All (λ i. ¬ LinearOrients i rules) before → IsTried sig top start
    → (j : Interpretation) → IsTried sig top j → IsLess (numbers_of j) (numbers_of start) → ¬ LinearOrients j rules
none_less sig top rules start before after e n t j m l o =
    let s = subst (IsSorted (IsListLess IsRowLess)) e (tried_sorted sig top) in
    let c = subst (λ z. Contains z j) e (tried_to sig top j m) in
    ⊎_elim (λ d. n d.0 j d.1 (subst (λ z. LinearOrients z rules) (sym d.2) o))
    (λ d. ⊎_elim (λ q. less_self (numbers_of j) (subst (λ z. IsLess (numbers_of j) (numbers_of z)) q l)) (λ q. less_both (numbers_of j) (numbers_of start) l (numbers_less start j (t.shape_is ∙ sym m.shape_is) (sorted_after (IsListLess IsRowLess) before after start j s q))) (contains_cases start after j d))
    (Contains-append_cases before (start ∷ after) j c)

-- what is tried interprets the signature: a coefficient of at least 1 for each argument
pub tried_fits : (sig : Signature) (top : ℕ) (i : Interpretation) → IsTried sig top i → IsInterpretationOf sig i
tried_fits [] top [] t = tt
tried_fits [] top (row ∷ i) t = absurd (let e = t.shape_is in cc)
tried_fits (f ∷ sig) top [] t = absurd (let e = t.shape_is in cc)
tried_fits (f ∷ sig) top (row ∷ i) t =
    let r = first_tried f sig top row i t in
    let n = within_lengths (replicate f.arity 1) (replicate f.arity 2) row.1 r.within in
    ((sym n.0 ∙ length-replicate f.arity 1, λ k d p. (small_coefficients f.arity row.1 r.within k d p).0), tried_fits sig top i (others_tried f sig top row i t))

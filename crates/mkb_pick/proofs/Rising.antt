-- Numbers that rise, after a change.
use Rattle.std.proofs.Common.{ℕ, ◌≡◌, ◌<◌, ◌≤◌, ◌+◌, ◌-◌, refl, sym, ap, ◌∙◌, true, Result, Ok, Err, subst, ◌⊎◌, inl, inr, ◌↔◌, List, length, get_or, insert, remove, take, drop, [], ◌∷◌, length-take, length-drop, arith, Contains}
use Rattle.std.proofs.lemmas.Bool.{cases_lt, cases_order}
use Rattle.std.proofs.lemmas.List.{get_or_default, get_or-take, get_or-drop, take-append-drop}
use Rattle.std.proofs.lemmas.List.Elements.{Contains-append_cases, Contains-append_left, Contains-append_right}
use Rattle.kb_lemmas.proofs.Membership.{only_member, contains_first}
use Rattle.std.proofs.lemmas.List.Edits.{length-insert, get_or-insert_below, get_or-insert_at, get_or-insert_above, length-remove, get_or-remove_below, get_or-remove_above}
use Rattle.std.specs.Prelude.{is_ok, MatchResult}
use Rattle.std.specs.Ordering.{nat_cmp}
use Rattle.std.specs.List.Sorted.{IsBinarySearchResult}
use Rattle.std.proofs.lemmas.List.Sorted.{searched}
use Rattle.mkb_pick.specs.Runs.{IsRising}

-- what stands at a place is there
pub at_place : (xs : List ℕ) (i : ℕ) → i < length xs → Contains xs (get_or xs i 0)
at_place xs i h = (i, h, get_or_default xs i (get_or xs i 0) 0 h)

-- the place of what is there
pub place_of : (xs : List ℕ) (k : ℕ) → Contains xs k → (i : ℕ) × (i < length xs) × (get_or xs i 0 ≡ k)
place_of xs k c = (c.0, c.1, get_or_default xs c.0 0 k c.1 ∙ c.2)

-- numbers that rise don't fall
pub no_fall : (xs : List ℕ) → IsRising xs → (i j : ℕ) → i ≤ j → j < length xs → get_or xs i 0 ≤ get_or xs j 0
no_fall xs up i j le h =
    elim (cases_order i j) [
      | inl e ↦ let same : get_or xs i 0 ≡ get_or xs j 0 = ap (λ k. get_or xs k 0) e in omega (arith, same)
      | inr o ↦
          elim o [
            | inl b ↦ omega (arith, up i j b h)
            | inr b ↦ absurd (omega (arith, le, b))
          ]
    ]

module _ (xs : List ℕ) (up : IsRising xs) (i k : ℕ) (within : i ≤ length xs) (below : (j : ℕ) → j < i → get_or xs j 0 < k) (above : (j : ℕ) → i ≤ j → j < length xs → k < get_or xs j 0) where
  pub rising_insert : IsRising (insert xs i k)
  rising_insert a b less most =
      let longer = length-insert xs i k within in
      elim (cases_order b i) [
        | inl e ↦
            let there : get_or (insert xs i k) b 0 ≡ k = ap (λ z. get_or (insert xs i k) z 0) e ∙ get_or-insert_at xs i k 0 within in
            let low : a < i = omega (arith, less, e) in
            omega (arith, there, get_or-insert_below xs i k 0 a low within, below a low)
        | inr o ↦
            elim o [
              | inl low ↦
                  let first : a < i = omega (arith, less, low) in
                  let inside : b < length xs = omega (arith, low, within) in
                  omega (arith, get_or-insert_below xs i k 0 b low within, get_or-insert_below xs i k 0 a first within, up a b less inside)
              | inr high ↦
                  let next : b - 1 + 1 ≡ b = omega (arith, high) in
                  let from : i ≤ b - 1 = omega (arith, high) in
                  let inside : b - 1 < length xs = omega (arith, longer, most, high) in
                  let last : get_or (insert xs i k) b 0 ≡ get_or xs (b - 1) 0 = ap (λ z. get_or (insert xs i k) z 0) (sym next) ∙ get_or-insert_above xs i k 0 (b - 1) from within in
                  elim (cases_order a i) [
                    | inl e ↦
                        let there : get_or (insert xs i k) a 0 ≡ k = ap (λ z. get_or (insert xs i k) z 0) e ∙ get_or-insert_at xs i k 0 within in
                        omega (arith, there, last, above (b - 1) from inside)
                    | inr p ↦
                        elim p [
                          | inl low ↦ omega (arith, last, get_or-insert_below xs i k 0 a low within, below a low, above (b - 1) from inside)
                          | inr up' ↦
                              let before : a - 1 + 1 ≡ a = omega (arith, up') in
                              let from' : i ≤ a - 1 = omega (arith, up') in
                              let first : get_or (insert xs i k) a 0 ≡ get_or xs (a - 1) 0 = ap (λ z. get_or (insert xs i k) z 0) (sym before) ∙ get_or-insert_above xs i k 0 (a - 1) from' within in
                              omega (arith, first, last, up (a - 1) (b - 1) (omega (arith, less, up')) inside)
                        ]
                  ]
            ]
      ]

  pub contains_insert : (m : ℕ) → Contains (insert xs i k) m ↔ ((m ≡ k) ⊎ Contains xs m)
  contains_insert m =
      let longer = length-insert xs i k within in (
        λ h.
            elim (cases_order h.0 i) [
              | inl e ↦ inl (sym h.2 ∙ ap (λ z. get_or (insert xs i k) z m) e ∙ get_or-insert_at xs i k m within)
              | inr o ↦
                  elim o [
                    | inl b ↦ inr (h.0, omega (arith, b, within), sym (get_or-insert_below xs i k m h.0 b within) ∙ h.2)
                    | inr b ↦
                        let next : h.0 - 1 + 1 ≡ h.0 = omega (arith, b) in
                        let from : i ≤ h.0 - 1 = omega (arith, b) in
                        inr (h.0 - 1, omega (arith, longer, b, h.1), sym (get_or-insert_above xs i k m (h.0 - 1) from within) ∙ ap (λ z. get_or (insert xs i k) z m) next ∙ h.2)
                  ]
            ],
        λ h.
            elim h [
              | inl e ↦ (i, omega (arith, longer, within), get_or-insert_at xs i k m within ∙ sym e)
              | inr c ↦
                  elim (cases_lt c.0 i) [
                    | inl b ↦ (c.0, omega (arith, longer, c.1), get_or-insert_below xs i k m c.0 b within ∙ c.2)
                    | inr b ↦ (c.0 + 1, omega (arith, longer, c.1), get_or-insert_above xs i k m c.0 b within ∙ c.2)
                  ]
            ],
      )

module _ (xs : List ℕ) (up : IsRising xs) (i k : ℕ) (within : i < length xs) (here : get_or xs i 0 ≡ k) where
  pub rising_remove : IsRising (remove xs i)
  rising_remove a b less most =
      let shorter = length-remove xs i within in
      elim (cases_lt b i) [
        | inl low ↦
            let first : a < i = omega (arith, less, low) in
            omega (arith, get_or-remove_below xs i 0 b low within, get_or-remove_below xs i 0 a first within, up a b less (omega (arith, low, within)))
        | inr high ↦
            let last = get_or-remove_above xs i 0 b high within in
            elim (cases_lt a i) [
              | inl low ↦ omega (arith, last, get_or-remove_below xs i 0 a low within, up a (b + 1) (omega (arith, less)) (omega (arith, shorter, most)))
              | inr up' ↦ omega (arith, last, get_or-remove_above xs i 0 a up' within, up (a + 1) (b + 1) (omega (arith, less)) (omega (arith, shorter, most)))
            ]
      ]

  -- what is elsewhere is another number
  elsewhere : (m j : ℕ) → j < length xs → get_or xs j m ≡ m → ¬ (j ≡ i) → ¬ (m ≡ k)
  elsewhere m j h e apart same =
      let there : get_or xs j 0 ≡ k = get_or_default xs j 0 m h ∙ e ∙ same in
      elim (cases_order j i) [
        | inl s ↦ apart s
        | inr o ↦
            elim o [
              | inl b ↦ omega (arith, up j i b within, there, here)
              | inr b ↦ omega (arith, up i j b h, there, here)
            ]
      ]

  pub contains_remove : (m : ℕ) → Contains (remove xs i) m ↔ (Contains xs m × ¬ (m ≡ k))
  contains_remove m =
      let shorter = length-remove xs i within in (
        λ h.
            elim (cases_lt h.0 i) [
              | inl b ↦
                  let is = sym (get_or-remove_below xs i m h.0 b within) ∙ h.2 in
                  let inside : h.0 < length xs = omega (arith, b, within) in
                  ((h.0, inside, is), elsewhere m h.0 inside is (omega (arith, b)))
              | inr b ↦
                  let is = sym (get_or-remove_above xs i m h.0 b within) ∙ h.2 in
                  let inside : h.0 + 1 < length xs = omega (arith, shorter, h.1) in
                  ((h.0 + 1, inside, is), elsewhere m (h.0 + 1) inside is (omega (arith, b)))
            ],
        λ h.
            elim (cases_order h.0.0 i) [
              | inl s ↦ absurd (h.1 (sym h.0.2 ∙ get_or_default xs h.0.0 m 0 h.0.1 ∙ ap (λ z. get_or xs z 0) s ∙ here))
              | inr o ↦
                  elim o [
                    | inl b ↦ (h.0.0, omega (arith, shorter, b, within), get_or-remove_below xs i m h.0.0 b within ∙ h.0.2)
                    | inr b ↦
                        let next : h.0.0 - 1 + 1 ≡ h.0.0 = omega (arith, b) in
                        let from : i ≤ h.0.0 - 1 = omega (arith, b) in
                        (h.0.0 - 1, omega (arith, shorter, b, h.0.1), get_or-remove_above xs i m (h.0.0 - 1) from within ∙ ap (λ z. get_or xs z m) next ∙ h.0.2)
                  ]
            ],
      )

-- what a search says, of a loan of the numbers
pub told : (ys xs : List ℕ) (k : ℕ) (r : Result ℕ ℕ) → ys ≡ xs → IsRising xs → IsBinarySearchResult (λ y. nat_cmp y k) ys r → MatchResult r (λ i. (i < length xs) × (get_or xs i 0 ≡ k)) (λ i. (i ≤ length xs) × ((j : ℕ) → j < i → get_or xs j 0 < k) × ((j : ℕ) → i ≤ j → j < length xs → k < get_or xs j 0))
told ys xs k r same up h = searched xs k r (subst (λ zs. IsBinarySearchResult (λ y. nat_cmp y k) zs r) same h) (no_fall xs up)

pub found_or_not : (ys xs : List ℕ) (k : ℕ) (r : Result ℕ ℕ) → ys ≡ xs → IsRising xs → IsBinarySearchResult (λ y. nat_cmp y k) ys r → (is_ok r ≡ true) ↔ Contains xs k
found_or_not ys xs k (Ok i) same up h =
    let s = told ys xs k (Ok i) same up h in
    (λ e. subst (Contains xs) s.1 (at_place xs i s.0), λ c. refl)
found_or_not ys xs k (Err i) same up h =
    let s = told ys xs k (Err i) same up h in (
      λ e. absurd (cc),
      λ c.
          let p = place_of xs k c in
          elim (cases_lt p.0 i) [
            | inl b ↦ absurd (omega (arith, s.1 p.0 b, p.2))
            | inr b ↦ absurd (omega (arith, s.2 p.0 b p.1, p.2))
          ],
    )

-- the first number is the least
pub least : (xs : List ℕ) → IsRising xs → (k : ℕ) → Contains xs k → get_or xs 0 0 ≤ k
least xs up k c =
    let p = place_of xs k c in
    omega (arith, no_fall xs up 0 p.0 (omega arith) p.1, p.2)

-- the last number is the greatest
pub greatest : (xs : List ℕ) → IsRising xs → (k : ℕ) → Contains xs k → k ≤ get_or xs (length xs - 1) 0
greatest xs up k c =
    let p = place_of xs k c in
    omega (arith, no_fall xs up p.0 (length xs - 1) (omega (arith, p.1)) (omega (arith, p.1)), p.2)

-- a part of numbers that rise
pub rising_take : (n : ℕ) (xs : List ℕ) → IsRising xs → IsRising (take n xs)
rising_take n xs up i j less most =
    let short = length-take n xs in
    let inside : j < n = omega (arith, most, short) in
    let first : i < n = omega (arith, inside, less) in
    omega (arith, get_or-take n xs i 0 first, get_or-take n xs j 0 inside, up i j less (omega (arith, most, short)))

pub rising_drop : (n : ℕ) (xs : List ℕ) → IsRising xs → IsRising (drop n xs)
rising_drop n xs up i j less most =
    let short = length-drop n xs in
    omega (arith, get_or-drop n xs i 0, get_or-drop n xs j 0, up (n + i) (n + j) (omega (arith, less)) (omega (arith, most, short)))

-- what stands in front is less than what stands behind
pub parts_apart : (n : ℕ) (xs : List ℕ) → IsRising xs → (k m : ℕ) → Contains (take n xs) k → Contains (drop n xs) m → k < m
parts_apart n xs up k m c d =
    let p = place_of (take n xs) k c in
    let q = place_of (drop n xs) m d in
    let front = length-take n xs in
    let back = length-drop n xs in
    let inside : p.0 < n = omega (arith, p.1, front) in
    omega (arith, get_or-take n xs p.0 0 inside, get_or-drop n xs q.0 0, p.2, q.2, up p.0 (n + q.0) (omega (arith, inside)) (omega (arith, q.1, back)))

pub parts_keys : (n : ℕ) (xs : List ℕ) (k : ℕ) → Contains xs k ↔ (Contains (take n xs) k ⊎ Contains (drop n xs) k)
parts_keys n xs k =
    let same = take-append-drop n xs in (
      λ c. Contains-append_cases (take n xs) (drop n xs) k (subst (λ ys. Contains ys k) (sym same) c),
      λ c.
          subst (λ ys. Contains ys k) same
          (elim c [
            | inl a ↦ Contains-append_left (take n xs) (drop n xs) k a
            | inr b ↦ Contains-append_right (take n xs) (drop n xs) k b
          ]),
    )

-- one number alone
pub single_keys : (k m : ℕ) → Contains (m ∷ []) k ↔ (k ≡ m)
single_keys k m = (λ c. sym (only_member m k c), λ e. subst (Contains (m ∷ [])) (sym e) (contains_first m []))

pub single_rises : (m : ℕ) → IsRising (m ∷ [])
single_rises m i j less most = absurd (omega (arith, less, most))

-- a list of one number
pub one_number : (xs : List ℕ) (m : ℕ) → length xs ≡ 1 → get_or xs 0 0 ≡ m → (k : ℕ) → Contains xs k ↔ (k ≡ m)
one_number xs m one is k = (
  λ c.
      let p = place_of xs k c in
      let first : p.0 ≡ 0 = omega (arith, p.1, one) in
      sym p.2 ∙ ap (λ i. get_or xs i 0) first ∙ is,
  λ e. subst (Contains xs) (is ∙ sym e) (at_place xs 0 (omega (arith, one))),
)

-- ---- a search from the first number on

-- none of the numbers before the place has P
abbrev pub NoneBefore : (ℕ → Type 0) → List ℕ → ℕ → Type 0
NoneBefore P xs i = (j : ℕ) → j < i → j < length xs → ¬ P (get_or xs j 0)

pub none_before_more : (P : ℕ → Type 0) (xs : List ℕ) (i : ℕ) → NoneBefore P xs i → ¬ P (get_or xs i 0) → NoneBefore P xs (i + 1)
none_before_more P xs i none here j less inside h =
    elim (cases_order j i) [
      | inl e ↦ here (subst (λ k. P (get_or xs k 0)) e h)
      | inr o ↦
          elim o [
            | inl b ↦ none j b inside h
            | inr b ↦ absurd (omega (arith, less, b))
          ]
    ]

pub none_at_all : (P : ℕ → Type 0) (xs : List ℕ) (i : ℕ) → length xs ≤ i → NoneBefore P xs i → (k : ℕ) → Contains xs k → ¬ P k
none_at_all P xs i all none k c h =
    let p = place_of xs k c in
    none p.0 (omega (arith, p.1, all)) p.1 (subst P (sym p.2) h)

-- the first number with P is the least
pub least_with : (P : ℕ → Type 0) (xs : List ℕ) → IsRising xs → (i : ℕ) → i < length xs → NoneBefore P xs i → (k : ℕ) → Contains xs k → P k → get_or xs i 0 ≤ k
least_with P xs up i within none k c h =
    let p = place_of xs k c in
    elim (cases_lt p.0 i) [
      | inl b ↦ absurd (none p.0 b p.1 (subst P (sym p.2) h))
      | inr b ↦ omega (arith, no_fall xs up i p.0 b p.1, p.2)
    ]

pub or_less : (k m : ℕ) → k ≤ m → (k ≡ m) ⊎ (k < m)
or_less k m le =
    elim (cases_order k m) [
      | inl e ↦ inl e
      | inr o ↦
          elim o [
            | inl b ↦ inr b
            | inr b ↦ absurd (omega (arith, le, b))
          ]
    ]

pub first_found : (P : ℕ → Type 0) (ys xs : List ℕ) → ys ≡ xs → IsRising xs → (i : ℕ) → i < length ys → NoneBefore P ys i → P (get_or ys i 0) → Contains xs (get_or ys i 0) × P (get_or ys i 0) × ((k : ℕ) → Contains xs k → P k → (get_or ys i 0 ≡ k) ⊎ (get_or ys i 0 < k))
first_found P ys xs same up i within none here =
    let all = subst IsRising (sym same) up in (
      subst (λ zs. Contains zs (get_or ys i 0)) same (at_place ys i within),
      here,
      λ k c h. or_less (get_or ys i 0) k (least_with P ys all i within none k (subst (λ zs. Contains zs k) (sym same) c) h),
    )

pub none_found : (P : ℕ → Type 0) (ys xs : List ℕ) → ys ≡ xs → (i : ℕ) → length ys ≤ i → NoneBefore P ys i → (k : ℕ) → Contains xs k → ¬ P k
none_found P ys xs same i all none k c = none_at_all P ys i all none k (subst (λ zs. Contains zs k) (sym same) c)

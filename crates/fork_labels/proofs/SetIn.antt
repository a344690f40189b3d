-- Sets of places in words.
use Rattle.std.proofs.Common.{◌≡◌, ◌≢◌, ℕ, ◌+◌, ◌-◌, ◌/◌, ◌%◌, ◌<◌, ◌≤◌, List, [], ◌∷◌, ◌++◌, length, Bool, true, false, ◌&&◌, ◌||◌, not, take, set, get_or, min, max, eqb, zero, suc, refl, sym, ap, ap₂, ◌∙◌, inl, inr, arith, length-set}
use Rattle.std.specs.Int.{bit_at}
use Rattle.std.proofs.lemmas.Bool.{cases_eq}
use Rattle.std.proofs.lemmas.Nat.Bits.{bit_at-lt}
use Rattle.std.proofs.lemmas.List.{get_or-set_same, get_or-set_other}
use Rattle.std.proofs.lemmas.List.FromFn.{fill_by_all, length-map-range_with_len, get_or-map-range_with_len, take-map-range_with_len, map-range_with_len_more}
use Rattle.fork_labels.specs.declared.place_set.Operation.{Operation}
use Rattle.kb_label.specs.Packed.{digit}
use Rattle.fork_labels.specs.Sets.{has_place, set_in, in_result, result_of}

pub length-set_in : (ws : List ℕ) (n : ℕ) → length (set_in ws n) ≡ n
unfolding set_in
length-set_in ws n = length-map-range_with_len (has_place ws) 0 n

pub get_or-set_in : (ws : List ℕ) (n s : ℕ) → s < n → get_or (set_in ws n) s false ≡ has_place ws s
unfolding set_in
get_or-set_in ws n s h = get_or-map-range_with_len (has_place ws) 0 n s s false h (omega arith)

pub take-set_in : (ws : List ℕ) (n k : ℕ) → k ≤ n → take k (set_in ws n) ≡ set_in ws k
unfolding set_in
take-set_in ws n k h = take-map-range_with_len (has_place ws) 0 n k h

pub set_in_more : (ws : List ℕ) (n : ℕ) → set_in ws (n + 1) ≡ set_in ws n ++ has_place ws n ∷ []
unfolding set_in
set_in_more ws n = map-range_with_len_more (has_place ws) 0 n n (omega arith)

pub set_from : (ws : List ℕ) (n : ℕ) (bs : List Bool) → length bs ≡ n → ((s : ℕ) → s < n → get_or bs s false ≡ has_place ws s) → set_in ws n ≡ bs
unfolding set_in
set_from ws n bs h f = sym (fill_by_all (has_place ws) bs n false h f)

pub same_sets : (ws vs : List ℕ) (n : ℕ) → ((s : ℕ) → s < n → has_place ws s ≡ has_place vs s) → set_in ws n ≡ set_in vs n
same_sets ws vs n f = set_from ws n (set_in vs n) (length-set_in vs n) (λ s h. get_or-set_in vs n s h ∙ sym (f s h))

eqb_digit : (b : Bool) → eqb (digit b) 1 ≡ b
eqb_digit true = refl
eqb_digit false = refl

-- one word with one bit that is as it is to be
module _ (ws : List ℕ) (s w : ℕ) (b : Bool) (there : s / 64 < length ws) (same : bit_at w (s % 64) ≡ digit b) (others : (j : ℕ) → j < 64 → j ≢ s % 64 → bit_at w j ≡ bit_at (get_or ws (s / 64) 0) j) where
  pub changed-same : has_place (set ws (s / 64) w) s ≡ b
  unfolding has_place
  changed-same = ap (λ v. eqb (bit_at v (s % 64)) 1) (get_or-set_same ws (s / 64) w 0 there) ∙ ap (λ n. eqb n 1) same ∙ eqb_digit b

  pub changed-other : (t : ℕ) → t ≢ s → has_place (set ws (s / 64) w) t ≡ has_place ws t
  unfolding has_place
  changed-other t h =
      elim (cases_eq (t / 64) (s / 64)) [
        | inl e ↦
            ap (λ k. eqb (bit_at (get_or (set ws (s / 64) w) k 0) (t % 64)) 1) e
            ∙ ap (λ v. eqb (bit_at v (t % 64)) 1) (get_or-set_same ws (s / 64) w 0 there)
            ∙ ap (λ n. eqb n 1) (others (t % 64) (omega arith) (λ f. h (omega (arith, e, f))))
            ∙ ap (λ k. eqb (bit_at (get_or ws k 0) (t % 64)) 1) (sym e)
        | inr ne ↦ ap (λ v. eqb (bit_at v (t % 64)) 1) (get_or-set_other ws (s / 64) (t / 64) w 0 ne)
      ]

  -- one place more
  pub pushed : set_in (set ws (s / 64) w) (s + 1) ≡ set_in ws s ++ b ∷ []
  pushed =
      set_in_more (set ws (s / 64) w) s
      ∙ ap₂ (λ bs c. bs ++ c ∷ []) (same_sets (set ws (s / 64) w) ws s (λ t h. changed-other t (λ e. omega (arith, h, e)))) changed-same

-- one place is put in
pub inserted : (ws : List ℕ) (n s w : ℕ) → s < n → s / 64 < length ws → bit_at w (s % 64) ≡ 1 → ((j : ℕ) → j < 64 → j ≢ s % 64 → bit_at w j ≡ bit_at (get_or ws (s / 64) 0) j)
    → set_in (set ws (s / 64) w) n ≡ set (set_in ws n) s true
inserted ws n s w h there same others =
    set_from (set ws (s / 64) w) n (set (set_in ws n) s true) (length-set (set_in ws n) s true ∙ length-set_in ws n)
    (λ t k. elim (cases_eq t s) [
      | inl e ↦
          ap (λ u. get_or (set (set_in ws n) s true) u false) e
          ∙ get_or-set_same (set_in ws n) s true false (omega (arith, length-set_in ws n))
          ∙ sym (changed-same ws s w true there same others)
          ∙ ap (has_place (set ws (s / 64) w)) (sym e)
      | inr ne ↦ get_or-set_other (set_in ws n) s t true false ne ∙ get_or-set_in ws n t k ∙ sym (changed-other ws s w true there same others t ne)
    ])

-- ---- operations

pub length-result_of : (op : Operation) (bs cs : List Bool) → length bs ≡ length cs → length (result_of op bs cs) ≡ length bs
length-result_of op [] cs h = refl
length-result_of op (b ∷ bs) [] h = absurd (omega arith)
length-result_of op (b ∷ bs) (c ∷ cs) h = ap suc (length-result_of op bs cs (omega arith))

get_or-result_of : (op : Operation) (bs cs : List Bool) (s : ℕ) → length bs ≡ length cs → s < length bs → get_or (result_of op bs cs) s false ≡ in_result op (get_or bs s false) (get_or cs s false)
get_or-result_of op [] cs s h g = absurd (omega arith)
get_or-result_of op (b ∷ bs) [] s h g = absurd (omega arith)
get_or-result_of op (b ∷ bs) (c ∷ cs) zero h g = refl
get_or-result_of op (b ∷ bs) (c ∷ cs) (suc s) h g = get_or-result_of op bs cs s (omega arith) (omega arith)

pub combined_sets : (op : Operation) (ws us vs : List ℕ) (n : ℕ) → n ≤ 1024 → ((k j : ℕ) → k < 16 → j < 64 → eqb (bit_at (get_or ws k 0) j) 1 ≡ in_result op (eqb (bit_at (get_or us k 0) j) 1) (eqb (bit_at (get_or vs k 0) j) 1))
    → set_in ws n ≡ result_of op (set_in us n) (set_in vs n)
unfolding has_place
combined_sets op ws us vs n few f =
    let same : length (set_in us n) ≡ length (set_in vs n) = length-set_in us n ∙ sym (length-set_in vs n) in
    set_from ws n (result_of op (set_in us n) (set_in vs n)) (length-result_of op (set_in us n) (set_in vs n) same ∙ length-set_in us n)
    (λ s h.
    get_or-result_of op (set_in us n) (set_in vs n) s same (omega (arith, length-set_in us n))
    ∙ ap₂ (in_result op) (get_or-set_in us n s h) (get_or-set_in vs n s h)
    ∙ sym (f (s / 64) (s % 64) (omega arith) (omega arith)))

either_bit : (x y : ℕ) → x < 2 → y < 2 → eqb (max x y) 1 ≡ (eqb x 1 || eqb y 1)
either_bit zero zero h g = refl
either_bit zero (suc zero) h g = refl
either_bit (suc zero) zero h g = refl
either_bit (suc zero) (suc zero) h g = refl
either_bit zero (suc (suc y)) h g = absurd (omega arith)
either_bit (suc zero) (suc (suc y)) h g = absurd (omega arith)
either_bit (suc (suc x)) y h g = absurd (omega arith)

both_bits : (x y : ℕ) → x < 2 → y < 2 → eqb (min x y) 1 ≡ (eqb x 1 && eqb y 1)
both_bits zero zero h g = refl
both_bits zero (suc zero) h g = refl
both_bits (suc zero) zero h g = refl
both_bits (suc zero) (suc zero) h g = refl
both_bits zero (suc (suc y)) h g = absurd (omega arith)
both_bits (suc zero) (suc (suc y)) h g = absurd (omega arith)
both_bits (suc (suc x)) y h g = absurd (omega arith)

first_bit : (x y : ℕ) → x < 2 → y < 2 → eqb (min x (1 - y)) 1 ≡ (eqb x 1 && not (eqb y 1))
first_bit zero zero h g = refl
first_bit zero (suc zero) h g = refl
first_bit (suc zero) zero h g = refl
first_bit (suc zero) (suc zero) h g = refl
first_bit zero (suc (suc y)) h g = absurd (omega arith)
first_bit (suc zero) (suc (suc y)) h g = absurd (omega arith)
first_bit (suc (suc x)) y h g = absurd (omega arith)

pub bit_either : (a b j : ℕ) (n : ℕ) → bit_at n j ≡ max (bit_at a j) (bit_at b j) → eqb (bit_at n j) 1 ≡ (eqb (bit_at a j) 1 || eqb (bit_at b j) 1)
bit_either a b j n e = ap (λ x. eqb x 1) e ∙ either_bit (bit_at a j) (bit_at b j) (bit_at-lt a j) (bit_at-lt b j)

pub bit_both : (a b j : ℕ) (n : ℕ) → bit_at n j ≡ min (bit_at a j) (bit_at b j) → eqb (bit_at n j) 1 ≡ (eqb (bit_at a j) 1 && eqb (bit_at b j) 1)
bit_both a b j n e = ap (λ x. eqb x 1) e ∙ both_bits (bit_at a j) (bit_at b j) (bit_at-lt a j) (bit_at-lt b j)

pub bit_first : (a b j : ℕ) (n : ℕ) → bit_at n j ≡ min (bit_at a j) (1 - bit_at b j) → eqb (bit_at n j) 1 ≡ (eqb (bit_at a j) 1 && not (eqb (bit_at b j) 1))
bit_first a b j n e = ap (λ x. eqb x 1) e ∙ first_bit (bit_at a j) (bit_at b j) (bit_at-lt a j) (bit_at-lt b j)

-- Words that have no place past the end of their set.
use Rattle.std.proofs.Common.{◌≡◌, ◌≢◌, ℕ, ◌+◌, ◌*◌, ◌-◌, ◌/◌, ◌%◌, ◌^◌, ◌<◌, ◌≤◌, List, [], ◌∷◌, length, Bool, true, false, ◌&&◌, not, take, set, get_or, replicate, eqb, zero, suc, refl, sym, ap, ap₂, ◌∙◌, inl, inr, arith}
use mathlib.Core.Bool.{true≢false}
use mir.Syntax.{w64}
use Rattle.std.specs.Int.{bit_at, trailing_zeros}
use Rattle.std.proofs.lemmas.Bool.{cases_eq}
use Rattle.std.proofs.lemmas.Nat.Bits.{bit_at-zero, bit_at-trailing_zeros}
use Rattle.fork_labels.specs.declared.place_set.Operation.{Operation}
use Rattle.fork_labels.specs.declared.place_set.Operation.TheVariants.{Join, Meet, Minus}
use Rattle.kb_label.specs.Packed.{digit}
use Rattle.fork_labels.specs.Sets.{has_place, set_in, in_result, none_in, IsClearFrom}
use Rattle.fork_labels.proofs.SetIn.{length-set_in, get_or-set_in, take-set_in, same_sets, changed-same, changed-other}

-- ---- each call keeps them clear

zeros : (n k : ℕ) → ◌≡◌ {A = ℕ} (get_or (replicate n 0) k 0) 0
zeros zero k = refl
zeros (suc n) zero = refl
zeros (suc n) (suc k) = zeros n k

pub clear-none : (n m : ℕ) → IsClearFrom (replicate m 0) n
unfolding has_place
clear-none n m = λ s a b. ap (λ w. eqb (bit_at w (s % 64)) 1) (zeros m (s / 64)) ∙ ap (λ v. eqb v 1) (bit_at-zero (s % 64))

nothing : (op : Operation) → in_result op false false ≡ false
nothing Join = refl
nothing Meet = refl
nothing Minus = refl

pub clear-combined : (op : Operation) (ws us vs : List ℕ) (n : ℕ) → ((k j : ℕ) → k < 16 → j < 64 → eqb (bit_at (get_or ws k 0) j) 1 ≡ in_result op (eqb (bit_at (get_or us k 0) j) 1) (eqb (bit_at (get_or vs k 0) j) 1))
    → IsClearFrom us n → IsClearFrom vs n → IsClearFrom ws n
unfolding has_place
clear-combined op ws us vs n f h g = λ s a b. f (s / 64) (s % 64) (omega arith) (omega arith) ∙ ap₂ (in_result op) (h s a b) (g s a b) ∙ nothing op

module _ (ws : List ℕ) (n s w : ℕ) (b : Bool) (there : s / 64 < length ws) (same : bit_at w (s % 64) ≡ digit b) (others : (j : ℕ) → j < 64 → j ≢ s % 64 → bit_at w j ≡ bit_at (get_or ws (s / 64) 0) j) (clear : IsClearFrom ws n) where
  -- a place before the end is put in
  pub clear-changed : (m : ℕ) → n ≤ m → s < m → IsClearFrom (set ws (s / 64) w) m
  clear-changed m le lt = λ t a c. changed-other ws s w b there same others t (λ e. omega (arith, e, a, lt)) ∙ clear t (omega (arith, a, le)) c

  -- the last place goes
  pub clear-popped : b ≡ false → n ≡ s + 1 → IsClearFrom (set ws (s / 64) w) s
  clear-popped none e = λ t a c. elim (cases_eq t s) [
    | inl f ↦ ap (has_place (set ws (s / 64) w)) f ∙ changed-same ws s w b there same others ∙ none
    | inr ne ↦ changed-other ws s w b there same others t ne ∙ clear t (omega (arith, e, a, ne)) c
  ]

  pub popped : n ≡ s + 1 → set_in (set ws (s / 64) w) s ≡ take s (set_in ws n)
  popped e = same_sets (set ws (s / 64) w) ws s (λ t lt. changed-other ws s w b there same others t (λ f. omega (arith, f, lt))) ∙ sym (take-set_in ws n s (omega (arith, e)))

-- ---- no place is in the set exactly where all words are 0

none_from : (bs : List Bool) → ((s : ℕ) → s < length bs → get_or bs s false ≡ false) → none_in bs ≡ true
none_from [] f = refl
none_from (b ∷ bs) f = ap₂ (λ x y. not x && y) (f 0 (omega arith)) (none_from bs (λ s h. f (suc s) (omega arith)))

some_from : (bs : List Bool) (s : ℕ) → get_or bs s false ≡ true → none_in bs ≡ false
some_from [] s e = absurd (true≢false (sym e))
some_from (b ∷ bs) zero e = ap (λ x. not x && none_in bs) e
some_from (b ∷ bs) (suc s) e = ap (λ x. not b && x) (some_from bs s e) ∙ and_false (not b)
  where
    and_false : (b : Bool) → (b && false) ≡ false
    and_false true = refl
    and_false false = refl

pub none_of_words : (ws : List ℕ) (n : ℕ) → n ≤ 1024 → ((k : ℕ) → k < 16 → get_or ws k 0 ≡ 0) → none_in (set_in ws n) ≡ true
unfolding has_place
none_of_words ws n few f =
    none_from (set_in ws n)
    (λ s h.
    let within : s < n = omega (arith, h, length-set_in ws n) in
    get_or-set_in ws n s within ∙ ap (λ w. eqb (bit_at w (s % 64)) 1) (f (s / 64) (omega (arith, within, few))) ∙ ap (λ v. eqb v 1) (bit_at-zero (s % 64)))

set_before_end : (ws : List ℕ) (n s : ℕ) → IsClearFrom ws n → s < 1024 → has_place ws s ≡ true → s < n
set_before_end ws n s clear few e = go (n - s) refl
  where
    go : (d : ℕ) → n - s ≡ d → s < n
    go zero f = absurd (true≢false (sym e ∙ clear s (omega (arith, f)) few))
    go (suc d) f = omega (arith, f)

-- a word that isn't 0 has a bit
pub some_bit : (w : ℕ) → 0 < w → w < 2 ^ 64 → (j : ℕ) × (j < 64) × (bit_at w j ≡ 1)
some_bit w some small = let found = bit_at-trailing_zeros w64 w some small in (trailing_zeros w64 w, found.0, found.1)

pub some_of_bit : (ws : List ℕ) (n k : ℕ) → k < 16 → IsClearFrom ws n → (j : ℕ) × (j < 64) × (bit_at (get_or ws k 0) j ≡ 1) → none_in (set_in ws n) ≡ false
unfolding has_place
some_of_bit ws n k lt clear found =
    let j = found.0 in
    let s = k * 64 + j in
    let word : s / 64 ≡ k = omega (arith, found.1) in
    let bit : s % 64 ≡ j = omega (arith, found.1) in
    let there : has_place ws s ≡ true = ap₂ (λ a b. eqb (bit_at (get_or ws a 0) b) 1) word bit ∙ ap (λ v. eqb v 1) found.2 in
    let within = set_before_end ws n s clear (omega (arith, lt, found.1)) there in
    some_from (set_in ws n) s (get_or-set_in ws n s within ∙ there)

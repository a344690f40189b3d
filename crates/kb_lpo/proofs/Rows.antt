-- Rows of bits that say which symbols don't stand behind which.
use Rattle.std.proofs.Common.{ℕ, zero, suc, ◌≡◌, ◌<◌, ◌≤◌, ◌+◌, ◌%◌, ◌*◌, ◌^◌, inl, inr, ◌⊎◌, ⊎_elim, sym, ap, ◌∙◌, subst, arith, List, length, get_or, set, max, min}
use Rattle.std.proofs.lemmas.Bool.{cases_eq}
use Rattle.std.proofs.lemmas.List.{get_or-set_same, get_or-set_other}
use Rattle.std.specs.Int.{bit_at, w32}
use Rattle.std.specs.Int.RustNames.{bit_or}
use Rattle.std.specs.Int.Bits.{bit_and}
use Rattle.std.proofs.lemmas.Nat.Bits.{bit_at_or, bit_at_and, bit_at-lt, bit_at-zero, bit_at_set_other}
use Rattle.kb_term.specs.Pair.{place_in}
use Rattle.kb_lpo.specs.Search.{FitsRows}

-- a bit of either number
pub either_bit : (a b y : ℕ) → bit_at (bit_or a b) y ≡ 1 → (bit_at a y ≡ 1) ⊎ (bit_at b y ≡ 1)
either_bit a b y h = cases (bit_at a y) (bit_at b y) (bit_at-lt a y) (bit_at-lt b y) (sym (bit_at_or a b y) ∙ h)
  where
    cases : (m n : ℕ) → m < 2 → n < 2 → max m n ≡ 1 → (m ≡ 1) ⊎ (n ≡ 1)
    cases zero n h k e = inr (grind (arith, e))
    cases (suc m) n h k e = inl (omega arith)

-- a bit of both numbers
both_bits : (a b y : ℕ) → bit_at (bit_and a b) y ≡ 1 → (bit_at a y ≡ 1) × (bit_at b y ≡ 1)
both_bits a b y h = cases (bit_at a y) (bit_at b y) (bit_at-lt a y) (bit_at-lt b y) (sym (bit_at_and a b y) ∙ h)
  where
    cases : (m n : ℕ) → m < 2 → n < 2 → min m n ≡ 1 → (m ≡ 1) × (n ≡ 1)
    cases m n h k e = (grind (arith, e), grind (arith, e))

-- the only bit of a power
pub one_bit : (i y : ℕ) → i < 32 → bit_at (1 * 2 ^ i % 2 ^ 32) y ≡ 1 → i ≡ y
one_bit i y h e = ⊎_elim (λ q. q) (λ d. absurd (other d)) (cases_eq i y)
  where
    other : ¬ (i ≡ y) → ⊥
    other d = let a = bit_at_set_other w32 0 i h y (λ q. d (sym q)) in let b = bit_at_or 0 (1 * 2 ^ i % 2 ^ 32) y in let z = bit_at-zero y in grind (arith, a, b, z, e)

-- the row of x gains the row of g, where x doesn't stand behind g
pub rows_put : (rows prec : List ℕ) (x g below : ℕ) → x < length rows → FitsRows rows prec → place_in prec x ≤ place_in prec g
    → ((y : ℕ) → bit_at below y ≡ 1 → place_in prec g ≤ place_in prec y) → FitsRows (set rows x (bit_or (get_or rows x 0) below)) prec
rows_put rows prec x g below h fit up low k y i b = ⊎_elim at_x elsewhere (cases_eq k x)
  where
    at_x : k ≡ x → place_in prec k ≤ place_in prec y
    at_x e =
        let w = subst (λ z. bit_at z y ≡ 1) (ap (λ z. get_or (set rows x (bit_or (get_or rows x 0) below)) z 0) e ∙ get_or-set_same rows x (bit_or (get_or rows x 0) below) 0 h) b in
        subst (λ z. place_in prec z ≤ place_in prec y) (sym e) (⊎_elim (λ q. fit x y (subst (λ z. z < 24) e i) q) (λ q. let l = low y q in omega (arith, l, up)) (either_bit (get_or rows x 0) below y w))

    elsewhere : ¬ (k ≡ x) → place_in prec k ≤ place_in prec y
    elsewhere d = fit k y i (subst (λ z. bit_at z y ≡ 1) (get_or-set_other rows x k (bit_or (get_or rows x 0) below) 0 d) b)

-- the first i rows have the bits of both tables, and the others those of the first
abbrev pub AreCommon : List ℕ → List ℕ → List ℕ → ℕ → Type 0
AreCommon rows here there i = (k y : ℕ) → k < 24 → bit_at (get_or rows k 0) y ≡ 1 → (bit_at (get_or here k 0) y ≡ 1) × (k < i → bit_at (get_or there k 0) y ≡ 1)

pub common_next : (rows here there : List ℕ) (i : ℕ) → i < length rows → AreCommon rows here there i → AreCommon (set rows i (bit_and (get_or rows i 0) (get_or there i 0))) here there (i + 1)
common_next rows here there i h common k y j b = ⊎_elim at_i elsewhere (cases_eq k i)
  where
    both : ℕ
    both = bit_and (get_or rows i 0) (get_or there i 0)

    at_i : k ≡ i → (bit_at (get_or here k 0) y ≡ 1) × (k < i + 1 → bit_at (get_or there k 0) y ≡ 1)
    at_i e =
        let w = both_bits (get_or rows i 0) (get_or there i 0) y (subst (λ z. bit_at z y ≡ 1) (ap (λ z. get_or (set rows i (bit_and (get_or rows i 0) (get_or there i 0))) z 0) e ∙ get_or-set_same rows i (bit_and (get_or rows i 0) (get_or there i 0)) 0 h) b) in
        ((common k y j (subst (λ z. bit_at (get_or rows z 0) y ≡ 1) (sym e) w.0)).0, λ q. subst (λ z. bit_at (get_or there z 0) y ≡ 1) (sym e) w.1)

    elsewhere : ¬ (k ≡ i) → (bit_at (get_or here k 0) y ≡ 1) × (k < i + 1 → bit_at (get_or there k 0) y ≡ 1)
    elsewhere d =
        let w = common k y j (subst (λ z. bit_at z y ≡ 1) (get_or-set_other rows i k (bit_and (get_or rows i 0) (get_or there i 0)) 0 d) b) in
        (w.0, λ q. w.1 (omega (arith, q, d)))

-- each row so far has no bit but its own
abbrev pub AreOwn : List ℕ → Type 0
AreOwn rows = (k y : ℕ) → k < 24 → bit_at (get_or rows k 0) y ≡ 1 → k ≡ y

pub own_next : (rows : List ℕ) (i : ℕ) → i < length rows → i < 32 → AreOwn rows → AreOwn (set rows i (1 * 2 ^ i % 2 ^ 32))
own_next rows i h j own k y l b = ⊎_elim at_i elsewhere (cases_eq k i)
  where
    at_i : k ≡ i → k ≡ y
    at_i e = e ∙ one_bit i y j (subst (λ z. bit_at z y ≡ 1) (ap (λ z. get_or (set rows i (1 * 2 ^ i % 2 ^ 32)) z 0) e ∙ get_or-set_same rows i (1 * 2 ^ i % 2 ^ 32) 0 h) b)

    elsewhere : ¬ (k ≡ i) → k ≡ y
    elsewhere d = own k y l (subst (λ z. bit_at z y ≡ 1) (get_or-set_other rows i k (1 * 2 ^ i % 2 ^ 32) 0 d) b)

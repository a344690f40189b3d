-- Sums of coefficients times the variables' values.
use Rattle.std.proofs.Common.{ℕ, zero, suc, ◌+◌, ◌*◌, ◌≤◌, ◌<◌, ◌≡◌, refl, ap, ◌∙◌, arith, List, [], ◌∷◌, length, get_or, set, cond, ◌==◌}
use Rattle.std.proofs.Math.Nat.{mul-le-mul_right}
use Rattle.std.proofs.lemmas.Bool.{cond-true, cond-false, ne_eqb, eq-eqb}
use Rattle.kb_linear.specs.Forms.{weighted, form_value}
use Rattle.kb_linear.specs.declared.form.LinearForm.{LinearForm}

pub weighted-none : (cs : List ℕ) (a : ℕ → ℕ) → ((n : ℕ) → a n ≡ 0) → weighted cs a ≡ 0
weighted-none [] a h = refl
weighted-none (c ∷ cs) a h = grind (arith, h 0, weighted-none cs (λ n. a (suc n)) (λ n. h (suc n)))

-- where one variable alone has a value
pub weighted-one : (cs : List ℕ) (k : ℕ) (a : ℕ → ℕ) → ((n : ℕ) → ¬ (n ≡ k) → a n ≡ 0) → weighted cs a ≡ get_or cs k 0 * a k
weighted-one [] k a h = grind arith
weighted-one (c ∷ cs) zero a h = grind (arith, weighted-none cs (λ n. a (suc n)) (λ n. h (suc n) (omega arith)))
weighted-one (c ∷ cs) (suc k) a h = grind (arith, h 0 (omega arith), weighted-one cs k (λ n. a (suc n)) (λ n d. h (suc n) (omega arith)))

pub weighted-le : (cs ds : List ℕ) (a : ℕ → ℕ) → length cs ≤ length ds → ((k : ℕ) → k < length cs → get_or cs k 0 ≤ get_or ds k 0) → weighted cs a ≤ weighted ds a
weighted-le [] ds a l h = omega arith
weighted-le (c ∷ cs) [] a l h = absurd (omega arith)
weighted-le (c ∷ cs) (d ∷ ds) a l h =
    let first = mul-le-mul_right (a 0) (h 0 (omega arith)) in
    omega (arith, first, weighted-le cs ds (λ n. a (suc n)) (omega arith) (λ k p. h (suc k) (omega arith)))

pub weighted-set : (cs : List ℕ) (k m : ℕ) (a : ℕ → ℕ) → k < length cs → weighted (set cs k (get_or cs k 0 + m)) a ≡ weighted cs a + m * a k
weighted-set [] k m a h = absurd (omega arith)
weighted-set (c ∷ cs) zero m a h = omega arith
weighted-set (c ∷ cs) (suc k) m a h = omega (arith, weighted-set cs k m (λ n. a (suc n)) (omega arith))

-- the variable k alone has the value m
abbrev peak : ℕ → ℕ → ℕ → ℕ
peak k m n = cond (n == k) m 0

peak_here : (k m : ℕ) → peak k m k ≡ m
peak_here k m = cond-true (k == k) m 0 (eq-eqb k k refl)

peak_away : (k m n : ℕ) → ¬ (n ≡ k) → peak k m n ≡ 0
peak_away k m n h = cond-false (n == k) m 0 (ne_eqb n k h)

-- one form exceeds another where its constant is greater and no coefficient less
pub exceeds_if : (f g : LinearForm) → length g.coefficients ≤ length f.coefficients → g.constant < f.constant → ((k : ℕ) → k < length g.coefficients → get_or g.coefficients k 0 ≤ get_or f.coefficients k 0) → (a : ℕ → ℕ) → form_value g a < form_value f a
exceeds_if f g l c h a = omega (arith, weighted-le g.coefficients f.coefficients a l h, c)

-- and only there
pub exceeds_constant : (f g : LinearForm) → ((a : ℕ → ℕ) → form_value g a < form_value f a) → g.constant < f.constant
exceeds_constant f g h = omega (arith, h (λ n. 0), weighted-none f.coefficients (λ n. 0) (λ n. refl), weighted-none g.coefficients (λ n. 0) (λ n. refl))

pub exceeds_coefficient : (f g : LinearForm) (k : ℕ) → ((a : ℕ → ℕ) → form_value g a < form_value f a) → get_or f.coefficients k 0 < get_or g.coefficients k 0 → ⊥
exceeds_coefficient f g k h l =
    let a : ℕ → ℕ = peak k (f.constant + 1) in
    let left : weighted f.coefficients a ≡ get_or f.coefficients k 0 * (f.constant + 1) = weighted-one f.coefficients k a (peak_away k (f.constant + 1)) ∙ ap (λ z. get_or f.coefficients k 0 * z) (peak_here k (f.constant + 1)) in
    let right : weighted g.coefficients a ≡ get_or g.coefficients k 0 * (f.constant + 1) = weighted-one g.coefficients k a (peak_away k (f.constant + 1)) ∙ ap (λ z. get_or g.coefficients k 0 * z) (peak_here k (f.constant + 1)) in
    let more = mul-le-mul_right (f.constant + 1) l in
    omega (arith, h a, left, right, more)

-- a coefficient is part of the value where each variable is 1
pub weighted-part : (cs : List ℕ) (k : ℕ) → get_or cs k 0 ≤ weighted cs (λ _. 1)
weighted-part [] k = omega arith
weighted-part (c ∷ cs) zero = omega arith
weighted-part (c ∷ cs) (suc k) = omega (arith, weighted-part cs k)

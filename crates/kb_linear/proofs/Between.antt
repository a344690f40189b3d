-- Values are monotone in the interpretation, so what the bounds refuse nothing between them orients.
use Rattle.std.proofs.Common.{ℕ, zero, suc, ◌≤◌, ◌<◌, ◌≡◌, refl, ap, arith, List, [], ◌∷◌, ◌++◌, length, slice_index_or, All}
use Rattle.std.proofs.Math.Nat.{mul-le-mul}
use Rattle.kb_term.specs.Tree.{Tree, Trees, variable, apply, no_trees, more_trees}
use Rattle.kb_term.specs.Rule.{Rule}
use Rattle.kb_linear.specs.LinearOrder.{Interpretation, linear_value, weighted_sum}
use Rattle.kb_linear.specs.Interpretations.{LinearOrients}
use Rattle.kb_linear.specs.Numbers.{numbers_of, shape_of}
use Rattle.kb_linear.proofs.Within.{AreBelow, tail_of}

-- the numbers of one row are at most those of the other
pub record IsRowBelow (row other : ℕ × List ℕ) : Type 0 where
  pub constant : row.0 ≤ other.0
  pub as_many : length row.1 ≡ length other.1
  pub coefficients : AreBelow row.1 other.1

below_front : (xs ys zs ws : List ℕ) → length xs ≡ length zs → AreBelow (xs ++ ys) (zs ++ ws) → AreBelow xs zs
below_front [] ys [] ws l h k = omega arith
below_front [] ys (z ∷ zs) ws l h k = absurd (omega arith)
below_front (x ∷ xs) ys [] ws l h k = absurd (omega arith)
below_front (x ∷ xs) ys (z ∷ zs) ws l h zero = h 0
below_front (x ∷ xs) ys (z ∷ zs) ws l h (suc k) = below_front xs ys zs ws (omega arith) (λ n. h (suc n)) k

below_behind : (xs ys zs ws : List ℕ) → length xs ≡ length zs → AreBelow (xs ++ ys) (zs ++ ws) → AreBelow ys ws
below_behind [] ys [] ws l h = h
below_behind [] ys (z ∷ zs) ws l h = absurd (omega arith)
below_behind (x ∷ xs) ys [] ws l h = absurd (omega arith)
below_behind (x ∷ xs) ys (z ∷ zs) ws l h = below_behind xs ys zs ws (omega arith) (λ n. h (suc n))

row_below : (i j : Interpretation) → shape_of i ≡ shape_of j → AreBelow (numbers_of i) (numbers_of j) → (f : ℕ) → IsRowBelow (slice_index_or i f (0, [])) (slice_index_or j f (0, []))
row_below [] [] s h f = record { constant = omega arith; as_many = refl; coefficients = λ k. omega arith }
row_below [] (q ∷ j) s h f = absurd (cc)
row_below (r ∷ i) [] s h f = absurd (cc)
row_below (r ∷ i) (q ∷ j) s h zero = let l : length r.1 ≡ length q.1 = cc in record { constant = h 0; as_many = l; coefficients = below_front r.1 (numbers_of i) q.1 (numbers_of j) l (λ n. h (suc n)) }
row_below (r ∷ i) (q ∷ j) s h (suc f) = let l : length r.1 ≡ length q.1 = cc in row_below i j (ap tail_of s) (below_behind r.1 (numbers_of i) q.1 (numbers_of j) l (λ n. h (suc n))) f

mutual
  pub value_le : (i j : Interpretation) → shape_of i ≡ shape_of j → AreBelow (numbers_of i) (numbers_of j) → (a : ℕ → ℕ) (t : Tree) → linear_value i a t ≤ linear_value j a t
  value_le i j s h a (variable n) = omega arith
  value_le i j s h a (apply f ts) =
      let r = row_below i j s h f in
      let c = r.constant in
      omega (arith, sum_le i j s h a ts (slice_index_or i f (0, [])).1 (slice_index_or j f (0, [])).1 r.as_many r.coefficients)

  sum_le : (i j : Interpretation) → shape_of i ≡ shape_of j → AreBelow (numbers_of i) (numbers_of j) → (a : ℕ → ℕ) (ts : Trees) (cs ds : List ℕ) → length cs ≡ length ds → AreBelow cs ds → weighted_sum i a ts cs ≤ weighted_sum j a ts ds
  sum_le i j s h a no_trees cs ds l b = omega arith
  sum_le i j s h a (more_trees t ts) [] [] l b = omega arith
  sum_le i j s h a (more_trees t ts) [] (d ∷ ds) l b = absurd (omega arith)
  sum_le i j s h a (more_trees t ts) (c ∷ cs) [] l b = absurd (omega arith)
  sum_le i j s h a (more_trees t ts) (c ∷ cs) (d ∷ ds) l b =
      let first = mul-le-mul (b 0) (value_le i j s h a t) in
      omega (arith, first, sum_le i j s h a ts cs ds (omega arith) (λ n. b (suc n)))

-- each rule passes with the greatest numbers on its left and the least on its right
abbrev pub MayOrient : Interpretation → Interpretation → List Rule → Type 0
MayOrient low high rules = All (λ (rule : Rule). (a : ℕ → ℕ) → linear_value low a rule.right < linear_value high a rule.left) rules

pub may_orient_between : (low high i : Interpretation) (rules : List Rule) → shape_of low ≡ shape_of i → shape_of i ≡ shape_of high → AreBelow (numbers_of low) (numbers_of i) → AreBelow (numbers_of i) (numbers_of high) → LinearOrients i rules → MayOrient low high rules
may_orient_between low high i rules s u b d o k rule h a =
    let r : Rule = slice_index_or rules k rule in
    omega (arith, o k rule h a, value_le low i s b a r.right, value_le i high u d a r.left)

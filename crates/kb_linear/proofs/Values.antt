-- How large values are, and a term's value argument by argument.
use Rattle.std.proofs.Common.{ℕ, zero, suc, ◌+◌, ◌*◌, ◌^◌, ◌≤◌, ◌<◌, ◌≡◌, refl, sym, ap, ◌∙◌, subst, arith, List, [], ◌∷◌, length, get_or, drop, map, All, suc-le-suc, zero-lt-suc, slice_index_or, ap₂, ◌⊎◌, inl, inr}
use Rattle.std.proofs.Math.Nat.{mul-le-mul, mul-le-mul_left, mul_assoc, pow-succ', pow-le-pow_right, one-le-pow}
use Rattle.std.proofs.Math.Seq.{drop-cons}
use Rattle.kb_term.specs.Tree.{Tree, Trees, variable, apply, no_trees, more_trees, trees_of, tree_size, trees_size, tree_depth, trees_depth, variables_of, variables_in}
use Rattle.kb_term.specs.View.{tree_of}
use Rattle.std.specs.Prelude.{Vec}
use Rattle.std.specs.declared.alloc.Global.{Global}
use Rattle.kb_lemmas.proofs.Membership.{all_rest, all_front, all_behind}
use Rattle.kb_term.specs.declared.term.Symbol.{Symbol}
use Rattle.kb_term.specs.declared.term.Term.{Term}
use Rattle.kb_term.specs.declared.term.Term.TheVariants.{App}
use Rattle.kb_linear.specs.LinearOrder.{Interpretation, linear_value, weighted_sum}
use Rattle.kb_linear.specs.Limits.{IsSmall, IsSmallRow, interpretation_of}

-- the powers of 3
power_more : (n : ℕ) → 3 ^ (n + 1) ≡ 3 * 3 ^ n
power_more n = let e : n + 1 ≡ suc n = omega arith in ap (λ z. 3 ^ z) e ∙ pow-succ' 3 n

pub power_le : (m n : ℕ) → m ≤ n → 3 ^ m ≤ 3 ^ n
power_le m n h = pow-le-pow_right (omega arith) h

power_some : (n : ℕ) → 1 ≤ 3 ^ n
power_some n = one-le-pow n 3 (omega arith)

-- what is still to be added, the terms ts times scale to a form of the given value, leaves room
pub record HasRoom (scale value : ℕ) (ts : Trees) : Type 0 where
  pub variables : All (λ n. n < 64) (variables_in ts)
  pub scale_fits : scale * (3 * 3 ^ trees_depth ts) ≤ 3 ^ 64
  pub sum_fits : value + 16 * 3 ^ 64 * trees_size ts ≤ 16 * 3 ^ 64 * 512

-- a term's scale and an argument's
scale_first : (scale c d e n : ℕ) → c ≤ 3 → d ≤ e → scale * (3 * 3 ^ e) ≤ n → scale * c * 3 ^ d ≤ n
scale_first scale c d e n h l p =
    let a : c * 3 ^ d ≤ 3 * 3 ^ e = mul-le-mul h (power_le d e l) in
    let b : scale * (c * 3 ^ d) ≤ scale * (3 * 3 ^ e) = mul-le-mul_left scale a in
    let q : scale * c * 3 ^ d ≡ scale * (c * 3 ^ d) = mul_assoc scale c (3 ^ d) in
    omega arith

scale_rest : (scale d e n : ℕ) → d ≤ e → scale * (3 * 3 ^ e) ≤ n → scale * (3 * 3 ^ d) ≤ n
scale_rest scale d e n l p =
    let a : 3 * 3 ^ d ≤ 3 * 3 ^ e = mul-le-mul_left 3 (power_le d e l) in
    let b : scale * (3 * 3 ^ d) ≤ scale * (3 * 3 ^ e) = mul-le-mul_left scale a in
    omega arith

pub scale_alone : (scale d n : ℕ) → scale * 3 ^ d ≤ n → scale ≤ n
scale_alone scale d n p = let a : scale * 1 ≤ scale * 3 ^ d = mul-le-mul_left scale (power_some d) in omega arith

small_row : (i : Interpretation) → IsSmall i → (f : ℕ) → IsSmallRow (slice_index_or i f (0, []))
small_row [] h f = record { constant = omega arith; coefficients = λ k d p. absurd (omega arith) }
small_row (row ∷ i) h zero = h 0 row (zero-lt-suc _)
small_row (row ∷ i) h (suc f) = small_row i (λ k d p. h (suc k) d (suc-le-suc p)) f

-- a scaled value, where each variable has the value 1
mutual
  pub scaled_value : (i : Interpretation) → IsSmall i → (n scale : ℕ) (t : Tree) → scale * 3 ^ tree_depth t ≤ n → scale * linear_value i (λ _. 1) t ≤ 16 * n * tree_size t
  scaled_value i small n scale (variable x) p = let a = scale_alone scale 1 n p in omega arith
  scaled_value i small n scale (apply f ts) p =
      let row : ℕ × List ℕ = slice_index_or i f (0, []) in
      let r : IsSmallRow row = small_row i small f in
      let q : scale * (3 * 3 ^ trees_depth ts) ≤ n = subst (λ z. scale * z ≤ n) (power_more (trees_depth ts)) p in
      let a : scale ≤ n = scale_alone scale (trees_depth ts + 1) n p in
      let b : scale * row.0 ≤ n * 15 = mul-le-mul a r.constant in
      let s : scale * weighted_sum i (λ _. 1) ts row.1 ≤ 16 * n * trees_size ts = scaled_sum i small n scale ts row.1 r.coefficients q in
      omega arith

  scaled_sum : (i : Interpretation) → IsSmall i → (n scale : ℕ) (ts : Trees) (cs : List ℕ) → All (λ c. (1 ≤ c) × (c ≤ 3)) cs → scale * (3 * 3 ^ trees_depth ts) ≤ n → scale * weighted_sum i (λ _. 1) ts cs ≤ 16 * n * trees_size ts
  scaled_sum i small n scale no_trees cs s p = omega arith
  scaled_sum i small n scale (more_trees t ts) [] s p = omega arith
  scaled_sum i small n scale (more_trees t ts) (c ∷ cs) s p =
      let first = s 0 0 (zero-lt-suc _) in
      let v = scaled_value i small n (scale * c) t (scale_first scale c (tree_depth t) (trees_depth (more_trees t ts)) n first.1 (omega arith) p) in
      let w = scaled_sum i small n scale ts cs (all_rest (λ c. (1 ≤ c) × (c ≤ 3)) c cs s) (scale_rest scale (trees_depth ts) (trees_depth (more_trees t ts)) n (omega arith) p) in
      omega arith

-- the first argument has room, and the others where it is added
pub record FirstHasRoom (scale value c : ℕ) (t : Tree) : Type 0 where
  pub variables : All (λ n. n < 64) (variables_of t)
  pub scale_fits : scale * c * 3 ^ tree_depth t ≤ 3 ^ 64
  pub sum_fits : value + 16 * 3 ^ 64 * tree_size t ≤ 16 * 3 ^ 64 * 512

pub room_first : (scale value c : ℕ) (t : Tree) (ts : Trees) → c ≤ 3 → HasRoom scale value (more_trees t ts) → FirstHasRoom scale value c t
room_first scale value c t ts h r = record {
  variables = all_front (λ n. n < 64) (variables_of t) (variables_in ts) r.variables;
  scale_fits = scale_first scale c (tree_depth t) (trees_depth (more_trees t ts)) (3 ^ 64) h (omega arith) r.scale_fits;
  sum_fits = let q = r.sum_fits in omega arith;
}

pub room_rest : (scale value more : ℕ) (t : Tree) (ts : Trees) → more ≤ value + 16 * 3 ^ 64 * tree_size t → HasRoom scale value (more_trees t ts) → HasRoom scale more ts
room_rest scale value more t ts h r = record {
  variables = all_behind (λ n. n < 64) (variables_of t) (variables_in ts) r.variables;
  scale_fits = scale_rest scale (trees_depth ts) (trees_depth (more_trees t ts)) (3 ^ 64) (omega arith) r.scale_fits;
  sum_fits = let q = r.sum_fits in omega arith;
}

-- the arguments of an application have room once the constant is added
pub room_all : (scale value more f c : ℕ) (ts : Trees) → c ≤ 15 → more ≡ value + scale * c → All (λ n. n < 64) (variables_in ts) → scale * 3 ^ tree_depth (apply f ts) ≤ 3 ^ 64 → value + 16 * 3 ^ 64 * tree_size (apply f ts) ≤ 16 * 3 ^ 64 * 512 → HasRoom scale more ts
room_all scale value more f c ts h e v p s = record {
  variables = v;
  scale_fits = subst (λ z. scale * z ≤ 3 ^ 64) (power_more (trees_depth ts)) p;
  sum_fits = let a : scale ≤ 3 ^ 64 = scale_alone scale (trees_depth ts + 1) (3 ^ 64) p in let b : scale * c ≤ 3 ^ 64 * 15 = mul-le-mul a h in omega arith;
}

-- the terms from place j on begin with the one at j
pub terms_more : (ts : List Term) (j : ℕ) (t : Term) → j < length ts → t ≡ get_or ts j t → trees_of (map tree_of (drop j ts)) ≡ more_trees (tree_of t) (trees_of (map tree_of (drop (j + 1) ts)))
terms_more ts j t h e =
    let n : suc j ≡ j + 1 = omega arith in
    let d : drop j ts ≡ t ∷ drop (j + 1) ts = drop-cons ts j t h ∙ ap₂ (λ x (n : ℕ). x ∷ drop n ts) (sym e) n in
    ap (λ us. trees_of (map tree_of us)) d

pub terms_end : (ts : List Term) (j : ℕ) → length ts ≤ j → trees_of (map tree_of (drop j ts)) ≡ no_trees
terms_end [] zero h = refl
terms_end [] (suc j) h = refl
terms_end (t ∷ ts) zero h = absurd (omega arith)
terms_end (t ∷ ts) (suc j) h = terms_end ts j (omega arith)

pub numbers_more : (cs : List ℕ) (j : ℕ) → j < length cs → drop j cs ≡ get_or cs j 0 ∷ drop (j + 1) cs
numbers_more cs j h = let n : suc j ≡ j + 1 = omega arith in drop-cons cs j 0 h ∙ ap (λ (n : ℕ). get_or cs j 0 ∷ drop n cs) n

pub numbers_end : (cs : List ℕ) (j : ℕ) → length cs ≤ j → drop j cs ≡ []
numbers_end [] zero h = refl
numbers_end [] (suc j) h = refl
numbers_end (c ∷ cs) zero h = absurd (omega arith)
numbers_end (c ∷ cs) (suc j) h = numbers_end cs j (omega arith)

-- with no argument or no coefficient left nothing is added
pub weighted_sum-end : (i : Interpretation) (a : ℕ → ℕ) (ts : Trees) (cs : List ℕ) → (ts ≡ no_trees) ⊎ (cs ≡ []) → weighted_sum i a ts cs ≡ 0
weighted_sum-end i a ts cs (inl e) = ap (λ us. weighted_sum i a us cs) e
weighted_sum-end i a no_trees cs (inr e) = refl
weighted_sum-end i a (more_trees t ts) cs (inr e) = ap (weighted_sum i a (more_trees t ts)) e

pub argument_smaller : (ts : List Term) (j : ℕ) (t : Term) → j < length ts → t ≡ get_or ts j t → tree_size (tree_of t) ≤ trees_size (trees_of (map tree_of ts))
argument_smaller [] j t h e = absurd (omega arith)
argument_smaller (u ∷ ts) zero t h e = let q : tree_size (tree_of t) ≡ tree_size (tree_of u) = ap (λ z. tree_size (tree_of z)) e in omega arith
argument_smaller (u ∷ ts) (suc j) t h e = omega (arith, argument_smaller ts j t (omega arith) e)

-- an application with its arguments as terms
pub application : (t : Term) (f : Symbol) (ts : List Tree) (items : List Term) → t ≡ App f ts → map tree_of items ≡ ts → tree_of t ≡ apply f.0 (trees_of (map tree_of items))
application t f ts items e d = ap tree_of e ∙ ap (λ us. apply f.0 (trees_of us)) (sym d)

-- the row of a symbol, and none
pub row_at : (rows : List (ℕ × Vec ℕ Global)) (f : ℕ) (row : ℕ × Vec ℕ Global) → f < length rows → row ≡ get_or rows f row → slice_index_or (interpretation_of rows) f (0, []) ≡ (row.0, row.1.items)
row_at [] f row h e = absurd (omega arith)
row_at (r ∷ rows) zero row h e = ap (λ (z : ℕ × Vec ℕ Global). (z.0, z.1.items)) (sym e)
row_at (r ∷ rows) (suc f) row h e = row_at rows f row (omega arith) e

pub no_row : (rows : List (ℕ × Vec ℕ Global)) (f : ℕ) → length rows ≤ f → slice_index_or (interpretation_of rows) f (0, []) ≡ (0, [])
no_row [] f h = refl
no_row (r ∷ rows) zero h = absurd (omega arith)
no_row (r ∷ rows) (suc f) h = no_row rows f (omega arith)

pub value_apply : (i : Interpretation) (a : ℕ → ℕ) (f : ℕ) (ts : Trees) (row : ℕ × List ℕ) → slice_index_or i f (0, []) ≡ row → linear_value i a (apply f ts) ≡ row.0 + weighted_sum i a ts row.1
value_apply i a f ts row e = ap (λ (r : ℕ × List ℕ). r.0 + weighted_sum i a ts r.1) e

-- one more argument is added
pub added_more : (i : Interpretation) (a : ℕ → ℕ) (value more scale c j whole : ℕ) (t : Tree) (ts us : Trees) (cs : List ℕ) → more ≡ value + scale * c * linear_value i a t → us ≡ more_trees t ts → j < length cs → get_or cs j 0 ≡ c
    → value + scale * weighted_sum i a us (drop j cs) ≡ whole → more + scale * weighted_sum i a ts (drop (j + 1) cs) ≡ whole
added_more i a value more scale c j whole t ts us cs m e h g w =
    let q : weighted_sum i a us (drop j cs) ≡ c * linear_value i a t + weighted_sum i a ts (drop (j + 1) cs) =
    ap₂ (weighted_sum i a) e (numbers_more cs j h ∙ ap (λ z. z ∷ drop (j + 1) cs) g) in
    let r : scale * weighted_sum i a us (drop j cs) ≡ scale * (c * linear_value i a t + weighted_sum i a ts (drop (j + 1) cs)) = ap (λ z. scale * z) q in
    omega arith

pub small_at : (rows : List (ℕ × Vec ℕ Global)) (f : ℕ) (row : ℕ × Vec ℕ Global) → IsSmall (interpretation_of rows) → f < length rows → row ≡ get_or rows f row → IsSmallRow (row.0, row.1.items)
small_at rows f row s h e = subst IsSmallRow (row_at rows f row h e) (small_row (interpretation_of rows) s f)

-- what is left of an application once its constant is added
pub added_first : (i : Interpretation) (a : ℕ → ℕ) (value more scale f : ℕ) (t : Tree) (ts : Trees) (row : ℕ × List ℕ) → t ≡ apply f ts → slice_index_or i f (0, []) ≡ row → more ≡ value + scale * row.0 → more + scale * weighted_sum i a ts row.1 ≡ value + scale * linear_value i a t
added_first i a value more scale f t ts row e r m =
    let q : linear_value i a t ≡ row.0 + weighted_sum i a ts row.1 = ap (linear_value i a) e ∙ value_apply i a f ts row r in
    let p : scale * linear_value i a t ≡ scale * (row.0 + weighted_sum i a ts row.1) = ap (λ z. scale * z) q in
    omega arith

-- a number that is read, whatever stands for a missing one
pub read_at : (cs : List ℕ) (j x : ℕ) → j < length cs → x ≡ get_or cs j x → get_or cs j 0 ≡ x
read_at [] j x h e = absurd (omega arith)
read_at (c ∷ cs) zero x h e = sym e
read_at (c ∷ cs) (suc j) x h e = read_at cs j x (omega arith) e

-- Occurrences of variables, and weights, argument by argument.
use Rattle.std.proofs.Common.{ℕ, zero, suc, ◌≡◌, ◌<◌, ◌≤◌, ◌+◌, refl, sym, ap, ◌∙◌, subst, ⊎_elim, arith, List, [], ◌∷◌, ◌++◌, length, get_or, map, All}
use Rattle.std.specs.Prelude.{replicate}
use Rattle.std.proofs.lemmas.Bool.{cases_lt}
use Rattle.kb_term.specs.Tree.{Tree, Trees, variable, apply, no_trees, more_trees, trees_of, tree_size, trees_size, tree_depth, trees_depth, variables_of, variables_in}
use Rattle.kb_term.specs.View.{tree_of}
use Rattle.kb_term.specs.declared.term.Term.{Term}
use Rattle.kb_linear.specs.Limits.{IsMeasurable}
use Rattle.kb_linear.proofs.Values.{argument_smaller}
use Rattle.kb_kbo.specs.KnuthBendix.{occurrences, HoldsVariables}

pub occurrences-append : (n : ℕ) (xs ys : List ℕ) → occurrences n (xs ++ ys) ≡ occurrences n xs + occurrences n ys
occurrences-append n [] ys = omega arith
occurrences-append n (x ∷ xs) ys = grind (arith, occurrences-append n xs ys)

-- a variable that is above all others occurs nowhere
pub occurrences-none : (n b : ℕ) (xs : List ℕ) → All (λ x. x < b) xs → b ≤ n → occurrences n xs ≡ 0
occurrences-none n b [] h l = refl
occurrences-none n b (x ∷ xs) h l = let k : x < b = h 0 x (omega arith) in let m = occurrences-none n b xs (λ i d j. h (suc i) d (omega arith)) l in grind (arith, k, m)

pub all_first : (P : ℕ → Type 0) (xs ys : List ℕ) → All P (xs ++ ys) → All P xs
all_first P [] ys h k d i = absurd (omega arith)
all_first P (x ∷ xs) ys h zero d i = h 0 d (omega arith)
all_first P (x ∷ xs) ys h (suc k) d i = all_first P xs ys (λ j e l. h (suc j) e (omega arith)) k d (omega arith)

pub all_rest : (P : ℕ → Type 0) (xs ys : List ℕ) → All P (xs ++ ys) → All P ys
all_rest P [] ys h = h
all_rest P (x ∷ xs) ys h = all_rest P xs ys (λ j e l. h (suc j) e (omega arith))

mutual
  pub occurrences-size : (n : ℕ) (t : Tree) → occurrences n (variables_of t) ≤ tree_size t
  occurrences-size n (variable m) = grind arith
  occurrences-size n (apply f ts) = let h = occurrences-sizes n ts in omega arith

  pub occurrences-sizes : (n : ℕ) (ts : Trees) → occurrences n (variables_in ts) ≤ trees_size ts
  occurrences-sizes n no_trees = omega arith
  occurrences-sizes n (more_trees t ts) = omega (arith, occurrences-append n (variables_of t) (variables_in ts), occurrences-size n t, occurrences-sizes n ts)

-- the first term of a list and the others
pub counted_first : (n : ℕ) (t : Tree) (us ts : Trees) → us ≡ more_trees t ts → occurrences n (variables_in us) ≡ occurrences n (variables_of t) + occurrences n (variables_in ts)
counted_first n t us ts e = ap (λ z. occurrences n (variables_in z)) e ∙ occurrences-append n (variables_of t) (variables_in ts)

pub none_counted : (k n : ℕ) → get_or (replicate {A = ℕ} k 0) n 0 ≡ 0
none_counted zero n = refl
none_counted (suc k) zero = refl
none_counted (suc k) (suc n) = none_counted k n

-- an argument of a measurable term is measurable
argument_below : (P : ℕ → Type 0) (items : List Term) (k : ℕ) (u : Term) → k < length items → u ≡ get_or items k u → All P (variables_in (trees_of (map tree_of items))) → All P (variables_of (tree_of u))
argument_below P [] k u h e a = absurd (omega arith)
argument_below P (x ∷ items) zero u h e a = subst (λ z. All P (variables_of (tree_of z))) (sym e) (all_first P (variables_of (tree_of x)) (variables_in (trees_of (map tree_of items))) a)
argument_below P (x ∷ items) (suc k) u h e a = argument_below P items k u (omega arith) e (all_rest P (variables_of (tree_of x)) (variables_in (trees_of (map tree_of items))) a)

argument_deep : (items : List Term) (k : ℕ) (u : Term) → k < length items → u ≡ get_or items k u → tree_depth (tree_of u) ≤ trees_depth (trees_of (map tree_of items))
argument_deep [] k u h e = absurd (omega arith)
argument_deep (x ∷ items) zero u h e = let q : tree_depth (tree_of u) ≡ tree_depth (tree_of x) = ap (λ z. tree_depth (tree_of z)) e in omega arith
argument_deep (x ∷ items) (suc k) u h e = let d = argument_deep items k u (omega arith) e in omega arith

pub argument_measurable : (t : Tree) (f : ℕ) (items : List Term) (k : ℕ) (u : Term) → t ≡ apply f (trees_of (map tree_of items)) → k < length items → u ≡ get_or items k u → IsMeasurable t → IsMeasurable (tree_of u)
argument_measurable t f items k u w h e m =
    let r = subst IsMeasurable w m in
    let s = argument_smaller items k u h e in
    let d = argument_deep items k u h e in
    let size = r.size in
    let depth = r.depth in
    record {
      variables = argument_below (λ n. n < 64) items k u h e r.variables;
      size = omega arith;
      depth = omega arith;
    }

-- s holds the variables of t where it does so below a number that is above all of both
pub holds_below : (b : ℕ) (s t : Tree) → All (λ x. x < b) (variables_of t) → ((n : ℕ) → n < b → occurrences n (variables_of t) ≤ occurrences n (variables_of s)) → HoldsVariables s t
holds_below b s t a h n = ⊎_elim (h n) (λ l. let z = occurrences-none n b (variables_of t) a l in omega arith) (cases_lt n b)

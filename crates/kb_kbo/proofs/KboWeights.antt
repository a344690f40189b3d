-- Weights are at least 1, and those of instances grow by what the substitution gives.
use Rattle.std.proofs.Common.{ℕ, zero, suc, ◌+◌, ◌-◌, ◌≤◌, ◌≡◌, refl, arith, List, [], ◌∷◌, All}
use Rattle.std.specs.Prelude.{slice_index_or}
use Rattle.std.specs.List.{sum_by}
use Rattle.std.proofs.lemmas.List.Sums.{sum_by-append}
use Rattle.std.proofs.lemmas.List.Elements.{All-tail, All-head}
use Rattle.kb_term.specs.Tree.{Tree, variable, apply, Trees, no_trees, more_trees, variables_of, variables_in, tree_depth, trees_depth}
use Rattle.kb_term.specs.Substitution.{instance, instances}
use Rattle.kb_kbo.specs.KnuthBendix.{KboOrder, symbol_weight, weight, weight_in, occurrences, HoldsVariables}
use Rattle.kb_kbo.specs.KnuthBendixLaws.{HasWeights}
use Rattle.kb_kbo.proofs.KboOccurrences.{occurrences-append, sum-holds}

weight_at : (ws : List ℕ) (f : ℕ) → All (λ n. 1 ≤ n) ws → 1 ≤ slice_index_or ws f 1
weight_at [] f h = omega arith
weight_at (w ∷ ws) zero h = All-head (λ n. 1 ≤ n) w ws h
weight_at (w ∷ ws) (suc f) h = weight_at ws f (All-tail (λ n. 1 ≤ n) w ws h)

pub symbol_weighs : (order : KboOrder) → HasWeights order → (f : ℕ) → 1 ≤ symbol_weight order f
symbol_weighs order h f = weight_at order.weights f h

pub term_weighs : (order : KboOrder) → HasWeights order → (t : Tree) → 1 ≤ weight order t
term_weighs order h (variable n) = omega arith
term_weighs order h (apply f ts) = omega (arith, symbol_weighs order h f)

-- a term is no deeper than it weighs
mutual
  pub depth-le-weight : (order : KboOrder) → HasWeights order → (t : Tree) → tree_depth t ≤ weight order t
  depth-le-weight order h (variable n) = omega arith
  depth-le-weight order h (apply f ts) = omega (arith, symbol_weighs order h f, depth_in-le-weight order h ts)

  depth_in-le-weight : (order : KboOrder) → HasWeights order → (ts : Trees) → trees_depth ts ≤ weight_in order ts
  depth_in-le-weight order h no_trees = omega arith
  depth_in-le-weight order h (more_trees t ts) = omega (arith, depth-le-weight order h t, depth_in-le-weight order h ts)

-- by how much the term that a variable gets weighs more than the variable
abbrev pub growth : KboOrder → (ℕ → Tree) → ℕ → ℕ
growth order m n = weight order (m n) - 1

-- each variable gets a term that weighs at least 1
abbrev pub IsHeavy : KboOrder → (ℕ → Tree) → Type 0
IsHeavy order m = (n : ℕ) → 1 ≤ weight order (m n)

mutual
  pub weight-instance : (order : KboOrder) (m : ℕ → Tree) → IsHeavy order m → (t : Tree) → weight order (instance m t) ≡ weight order t + sum_by (growth order m) (variables_of t)
  weight-instance order m h (variable n) = omega (arith, h n)
  weight-instance order m h (apply f ts) = omega (arith, weight-instances order m h ts)

  weight-instances : (order : KboOrder) (m : ℕ → Tree) → IsHeavy order m → (ts : Trees) → weight_in order (instances m ts) ≡ weight_in order ts + sum_by (growth order m) (variables_in ts)
  weight-instances order m h no_trees = refl
  weight-instances order m h (more_trees t ts) = omega (arith, weight-instance order m h t, weight-instances order m h ts, sum_by-append (growth order m) (variables_of t) (variables_in ts))

-- how often a variable occurs in the term that another one gets
abbrev pub copies : (ℕ → Tree) → ℕ → ℕ → ℕ
copies m x n = occurrences x (variables_of (m n))

mutual
  pub occurrences-instance : (x : ℕ) (m : ℕ → Tree) (t : Tree) → occurrences x (variables_of (instance m t)) ≡ sum_by (copies m x) (variables_of t)
  occurrences-instance x m (variable n) = omega arith
  occurrences-instance x m (apply f ts) = occurrences-instances x m ts

  occurrences-instances : (x : ℕ) (m : ℕ → Tree) (ts : Trees) → occurrences x (variables_in (instances m ts)) ≡ sum_by (copies m x) (variables_in ts)
  occurrences-instances x m no_trees = refl
  occurrences-instances x m (more_trees t ts) =
      omega (arith, occurrences-instance x m t, occurrences-instances x m ts, sum_by-append (copies m x) (variables_of t) (variables_in ts), occurrences-append x (variables_of (instance m t)) (variables_in (instances m ts)))

pub holds-instance : (m : ℕ → Tree) (s t : Tree) → HoldsVariables s t → HoldsVariables (instance m s) (instance m t)
holds-instance m s t h x = omega (arith, occurrences-instance x m s, occurrences-instance x m t, sum-holds (copies m x) (variables_of s) (variables_of t) h)

-- the instance of a lesser term grows no more
pub growth-holds : (order : KboOrder) (m : ℕ → Tree) (s t : Tree) → HoldsVariables s t → sum_by (growth order m) (variables_of t) ≤ sum_by (growth order m) (variables_of s)
growth-holds order m s t h = sum-holds (growth order m) (variables_of s) (variables_of t) h

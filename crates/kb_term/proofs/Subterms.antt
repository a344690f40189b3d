-- Positions in terms: argument numbers from 1, the empty list for the root.
use Rattle.std.proofs.Common.{ℕ, zero, suc, ◌≡◌, inl, inr, subst, List, [], ◌∷◌, Option, Some, None, option_map}
use Rattle.kb_term.specs.Tree.{Tree, variable, apply, Trees, no_trees, more_trees}
use Rattle.kb_term.proofs.Steps.{Occurs, OccursIn}

abbrev mutual
  pub subterm_at : Tree → List ℕ → Option Tree
  subterm_at (variable n) [] = Some (variable n)
  subterm_at (variable n) (k ∷ p) = None
  subterm_at (apply f ts) [] = Some (apply f ts)
  subterm_at (apply f ts) (k ∷ p) = argument_at ts k p

  pub argument_at : Trees → ℕ → List ℕ → Option Tree
  argument_at no_trees k p = None
  argument_at (more_trees t ts) zero p = None
  argument_at (more_trees t ts) (suc zero) p = subterm_at t p
  argument_at (more_trees t ts) (suc (suc k)) p = argument_at ts (suc k) p

abbrev mutual
  pub replace_at : Tree → List ℕ → Tree → Option Tree
  replace_at (variable n) [] v = Some v
  replace_at (variable n) (k ∷ p) v = None
  replace_at (apply f ts) [] v = Some v
  replace_at (apply f ts) (k ∷ p) v = option_map (apply f) (replace_in ts k p v)

  pub replace_in : Trees → ℕ → List ℕ → Tree → Option Trees
  replace_in no_trees k p v = None
  replace_in (more_trees t ts) zero p v = None
  replace_in (more_trees t ts) (suc zero) p v = option_map (λ x. more_trees x ts) (replace_at t p v)
  replace_in (more_trees t ts) (suc (suc k)) p v = option_map (more_trees t) (replace_in ts (suc k) p v)

abbrev pub IsApplied : Tree → Type 0
IsApplied (variable n) = ⊥
IsApplied (apply f ts) = Unit {0}

mutual
  -- the variables of a subterm stand in the term
  pub occurs_at : (x : ℕ) (t : Tree) (p : List ℕ) (u : Tree) → subterm_at t p ≡ Some u → Occurs x u → Occurs x t
  occurs_at x (variable n) [] u e o = let q : u ≡ variable n = cc in subst (Occurs x) q o
  occurs_at x (variable n) (k ∷ p) u e o = absurd (cc)
  occurs_at x (apply f ts) [] u e o = let q : u ≡ apply f ts = cc in subst (Occurs x) q o
  occurs_at x (apply f ts) (k ∷ p) u e o = occurs_in x ts k p u e o

  occurs_in : (x : ℕ) (ts : Trees) (k : ℕ) (p : List ℕ) (u : Tree) → argument_at ts k p ≡ Some u → Occurs x u → OccursIn x ts
  occurs_in x no_trees k p u e o = absurd (cc)
  occurs_in x (more_trees t ts) zero p u e o = absurd (cc)
  occurs_in x (more_trees t ts) (suc zero) p u e o = inl (occurs_at x t p u e o)
  occurs_in x (more_trees t ts) (suc (suc k)) p u e o = inr (occurs_in x ts (suc k) p u e o)

-- Canonical pairs pass the limits of the terms that they are made of.
use Rattle.std.proofs.Common.{ℕ, ◌+◌, ◌≡◌, ◌∙◌, refl, sym, ap, ap₂, subst, arith, ⊎_elim, Bool, true, false, cond, Some, None}
use Rattle.std.specs.Prelude.{max}
use Rattle.kb_term.specs.Tree.{Tree, Trees, variable, apply, no_trees, more_trees, tree_size, trees_size, tree_depth, trees_depth, tree_eq}
use Rattle.kb_term.specs.Substitution.{instance, instances}
use Rattle.kb_term.specs.Pair.{Pair, place_in, variables_of_pair, numbered, canonical_pair, canonical, IsWithin, ArePairWithin, term_limit}
use Rattle.kb_term.specs.declared.limit.Limit.{Limit}
use Rattle.kb_term.proofs.NameList.{variables_of_pair-swapped}
use Rattle.kb_term.proofs.OwnPair.{numbered_few}
use Rattle.kb_term.proofs.CanonicalPairs.{lesser_cases}
use Rattle.kb_term.proofs.Limited.{limit-none}

-- renaming keeps size and depth
mutual
  size-renamed : (r : ℕ → ℕ) (t : Tree) → tree_size (instance (λ n. variable (r n)) t) ≡ tree_size t
  size-renamed r (variable n) = refl
  size-renamed r (apply f ts) = ap (λ n. n + 1) (sizes-renamed r ts)

  sizes-renamed : (r : ℕ → ℕ) (ts : Trees) → trees_size (instances (λ n. variable (r n)) ts) ≡ trees_size ts
  sizes-renamed r no_trees = refl
  sizes-renamed r (more_trees t ts) = ap₂ (λ m n. m + n) (size-renamed r t) (sizes-renamed r ts)

mutual
  depth-renamed : (r : ℕ → ℕ) (t : Tree) → tree_depth (instance (λ n. variable (r n)) t) ≡ tree_depth t
  depth-renamed r (variable n) = refl
  depth-renamed r (apply f ts) = ap (λ n. n + 1) (depths-renamed r ts)

  depths-renamed : (r : ℕ → ℕ) (ts : Trees) → trees_depth (instances (λ n. variable (r n)) ts) ≡ trees_depth ts
  depths-renamed r no_trees = refl
  depths-renamed r (more_trees t ts) = ap₂ max (depth-renamed r t) (depths-renamed r ts)

within_renamed : (r : ℕ → ℕ) (t : Tree) → IsWithin (instance (λ n. variable (r n)) t) → IsWithin t
within_renamed r t w = record { size = omega (arith, w.size, size-renamed r t); depth = omega (arith, w.depth, depth-renamed r t) }

within_numbered : (s t : Tree) → ArePairWithin (numbered s t).first (numbered s t).second → ArePairWithin s t
within_numbered s t w = record {
  first = within_renamed (place_in (variables_of_pair s t)) s w.first;
  second = within_renamed (place_in (variables_of_pair s t)) t w.second;
  few = omega (arith, w.few, numbered_few s t);
}

swapped : (s t : Tree) → ArePairWithin t s → ArePairWithin s t
swapped s t w = record { first = w.second; second = w.first; few = omega (arith, w.few, variables_of_pair-swapped s t) }

the_pair : (b : Bool) (p q : Pair) → cond b None (Some p) ≡ Some q → p ≡ q
the_pair true p q e = absurd (cc)
the_pair false p q e = cc

-- two terms whose canonical pair passes no limit pass none
pub within_canonical : (s t : Tree) (e : Pair) → canonical_pair s t ≡ Some e → ArePairWithin e.first e.second → ArePairWithin s t
within_canonical s t e h w =
    let is : canonical s t ≡ e = the_pair (tree_eq s t) (canonical s t) e h in
    ⊎_elim
    (λ q. within_numbered s t (subst (λ (p : Pair). ArePairWithin p.first p.second) (sym is ∙ q) w))
    (λ q. swapped s t (within_numbered t s (subst (λ (p : Pair). ArePairWithin p.first p.second) (sym is ∙ q) w)))
    (lesser_cases (numbered s t) (numbered t s))

-- a term that passes a limit isn't within
pub limit_passed : (t : Tree) (limit : Limit) → term_limit t ≡ Some limit → ¬ IsWithin t
limit_passed t limit e w = let none : term_limit t ≡ None = limit-none t w.size w.depth in absurd (cc)

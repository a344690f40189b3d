-- Canonical pairs over a signature up to a size are finitely many.
use Rattle.std.proofs.Common.{ℕ, zero, suc, ◌+◌, ◌≤◌, ◌<◌, ◌≡◌, ◌⊎◌, inl, refl, sym, ap₂, ◌∙◌, subst, arith, List, [], ◌∷◌, ◌++◌, map, flat_map, length, length-append, Contains, get_or, not, ◌==◌, ⊎_elim}
use Rattle.std.proofs.lemmas.List.Elements.{Contains-get_or}
use Rattle.std.proofs.lemmas.List.Filters.{length-filter_both}
use Rattle.kb_lemmas.proofs.Membership.{contains_behind, contains_first, contains_map, contains_flat_map}
use Rattle.kb_term.specs.Tree.{Tree, Trees, variable, apply, no_trees, more_trees, tree_size, trees_size, variables_of, variables_in}
use Rattle.kb_term.specs.Pair.{Pair, distinct, place_in, variables_of_pair, numbered}
use Rattle.kb_term.specs.Signature.{Signature, IsWellFormed}
use Rattle.kb_term.specs.Substitution.{rename}
use Rattle.kb_term.proofs.CanonicalPairs.{lesser_cases}
use Rattle.kb_term.proofs.Numbered.{place_in-le-length}
use Rattle.kb_term.proofs.Variants.{variables_renamed}
use Rattle.kb_kbo.specs.KnuthBendix.{KboOrder, weight, weight_in}
use Rattle.kb_kbo.specs.KnuthBendixLaws.{HasWeights, HasLighter}
use Rattle.kb_kbo.proofs.KboHalting.{lighter_few}
use Rattle.kb_linear.proofs.Sorted.{contains_map_back}
use Rattle.mkb_model.specs.Plain.{pair_size}
use Rattle.mkb_fairness.specs.Fairness.{IsPairOver, HasPairsUpTo}

-- ---- the order in which each symbol weighs 1

abbrev plain_order : KboOrder
plain_order = record { weights = []; precedence = [] }

plain_weights : HasWeights plain_order
plain_weights k d l = absurd (omega (arith, l))

mutual
  weight-size : (t : Tree) → weight plain_order t ≡ tree_size t
  weight-size (variable n) = refl
  weight-size (apply f ts) = let h = weight_in-size ts in omega (arith, h)

  weight_in-size : (ts : Trees) → weight_in plain_order ts ≡ trees_size ts
  weight_in-size no_trees = refl
  weight_in-size (more_trees t ts) = ap₂ (λ m n. m + n) (weight-size t) (weight_in-size ts)

-- ---- a term with the first variables

abbrev first_variables : ℕ → Trees
first_variables zero = no_trees
first_variables (suc n) = more_trees (variable n) (first_variables n)

abbrev large : ℕ → Tree
large n = apply 0 (first_variables n)

size-first : (n : ℕ) → trees_size (first_variables n) ≡ n
size-first zero = refl
size-first (suc n) = let h = size-first n in omega (arith, h)

first_there : (n x : ℕ) → x < n → Contains (variables_in (first_variables n)) x
first_there zero x h = absurd (omega (arith, h))
first_there (suc n) x h = ⊎_elim (λ e. subst {A = ℕ} (Contains (n ∷ variables_in (first_variables n))) e (contains_first n (variables_in (first_variables n)))) (λ l. contains_behind n (variables_in (first_variables n)) x (first_there n x l)) (last n x h)
  where
    last : (n x : ℕ) → x < suc n → (n ≡ x) ⊎ (x < n)
    last n x h = grind arith

-- ---- the variables of a canonical pair

length-distinct : (xs : List ℕ) → length (distinct xs) ≤ length xs
length-distinct [] = omega arith
length-distinct (x ∷ xs) = let h = length-filter_both (λ y. not (y == x)) (λ y. not (not (y == x))) (λ y. refl) (distinct xs) in let k = length-distinct xs in omega (arith, h, k)

mutual
  length-variables : (t : Tree) → length (variables_of t) ≤ tree_size t
  length-variables (variable n) = omega arith
  length-variables (apply f ts) = let h = length-variables_in ts in omega (arith, h)

  length-variables_in : (ts : Trees) → length (variables_in ts) ≤ trees_size ts
  length-variables_in no_trees = omega arith
  length-variables_in (more_trees t ts) =
      let e = length-append (variables_of t) (variables_in ts) in
      let h = length-variables t in
      let k = length-variables_in ts in
      omega (arith, e, h, k)

-- the numbers of the variables are at most the sizes of the two terms
variables_below : (s t u : Tree) (x : ℕ) → Contains (variables_of (rename (place_in (variables_of_pair s t)) u)) x → x ≤ tree_size s + tree_size t
variables_below s t u x c =
    let m = contains_map_back (place_in (variables_of_pair s t)) (variables_of u) x (subst {A = List ℕ} (λ xs. Contains xs x) (variables_renamed (place_in (variables_of_pair s t)) u) c) in
    let e = m.2 in
    let l = place_in-le-length (variables_of_pair s t) m.0 in
    let d = length-distinct (variables_of s ++ variables_of t) in
    let a = length-append (variables_of s) (variables_of t) in
    let h = length-variables s in
    let k = length-variables t in
    omega (arith, e, l, d, a, h, k)

-- each variable of the two sides
abbrev AreBelow : ℕ → Pair → Type 0
AreBelow n q = ((x : ℕ) → Contains (variables_of q.first) x → x ≤ n) × ((x : ℕ) → Contains (variables_of q.second) x → x ≤ n)

below_numbered : (s t : Tree) → AreBelow (tree_size s + tree_size t) (numbered s t)
below_numbered s t = (λ x c. variables_below s t s x c, λ x c. variables_below s t t x c)

below_canonical : (signature : Signature) (q : Pair) → IsPairOver signature q → AreBelow (pair_size q) q
below_canonical signature q over = ⊎_elim
    (λ e. subst {A = Pair} (AreBelow (pair_size q)) (sym e ∙ over.canonical) (below_numbered q.first q.second))
    (λ e. subst {A = Pair} (AreBelow (pair_size q)) (sym e ∙ over.canonical) (turned (below_numbered q.second q.first)))
    (lesser_cases (numbered q.first q.second) (numbered q.second q.first))
  where
    turned : AreBelow (tree_size q.second + tree_size q.first) (numbered q.second q.first) → AreBelow (pair_size q) (numbered q.second q.first)
    turned h = (λ x c. let l = h.0 x c in omega (arith, l), λ x c. let l = h.1 x c in omega (arith, l))

-- ---- the pairs

-- each two members of a list
abbrev twos : {X Y : Type 0} → (X → X → Y) → List X → List Y
twos f xs = flat_map (λ x. map (f x) xs) xs

twos_in : {X Y : Type 0} (f : X → X → Y) (xs : List X) (x z : X) → Contains xs x → Contains xs z → Contains (twos f xs) (f x z)
twos_in f xs x z c d = contains_flat_map (λ y. map (f y) xs) xs x (f x z) c (contains_map (f x) xs z d)

-- two terms as a pair
abbrev pair_of : Tree → Tree → Pair
pair_of s t = record { first = s; second = t }

abbrev both : Pair → Pair → Pair × Pair
both q r = (q, r)

module _ (signature : Signature) (size : ℕ) where
  -- all terms over the signature that have variables up to the size and are no larger
  few_terms : (terms : List Tree) × HasLighter signature plain_order (large (size + 1)) terms
  few_terms = lighter_few signature plain_order plain_weights (large (size + 1))

  term_there : (t : Tree) → IsWellFormed signature t → ((x : ℕ) → Contains (variables_of t) x → x ≤ size) → tree_size t ≤ size → Contains few_terms.0 t
  term_there t well below small = few_terms.1 t (record {
    over = well;
    variables = λ k d i. let l = below (get_or (variables_of t) k d) (Contains-get_or (variables_of t) k d i) in first_there (size + 1) (get_or (variables_of t) k d) (omega (arith, l));
    weighs = let e = weight-size t in let d = weight-size (large (size + 1)) in let f = size-first (size + 1) in omega (arith, e, d, f, small);
  })

  pair_there : (q : Pair) → IsPairOver signature q → pair_size q ≤ size → Contains (twos pair_of few_terms.0) q
  pair_there q over small =
      let b = below_canonical signature q over in
      twos_in pair_of few_terms.0 q.first q.second
      (term_there q.first over.first (λ x c. let l = b.0 x c in omega (arith, l, small)) (omega (arith, small)))
      (term_there q.second over.second (λ x c. let l = b.1 x c in omega (arith, l, small)) (omega (arith, small)))

  -- some list has each two canonical pairs that together are at most of the size
  pub few_pairs : (all : List (Pair × Pair)) × HasPairsUpTo signature size all
  few_pairs = (
    twos both (twos pair_of few_terms.0),
    λ q r over also small. inl (twos_in both (twos pair_of few_terms.0) q r (pair_there q over (omega (arith, small))) (pair_there r also (omega (arith, small)))),
  )

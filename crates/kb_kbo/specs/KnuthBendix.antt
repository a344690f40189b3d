-- The Knuth-Bendix order: each variable weighs 1, each symbol at least 1, and a term weighs what occurs in it.
use Rattle.std.specs.Prelude.{ℕ, suc, ◌+◌, ◌<◌, ◌≤◌, ◌≡◌, ◌==◌, cond, List, [], ◌∷◌, ◌++◌, slice_index_or}
use Rattle.kb_term.specs.Tree.{Tree, Trees, variable, apply, no_trees, more_trees, list_of, variables_of}
use Rattle.kb_lpo.specs.PathOrder.{IsAbove}

-- the weights of the symbols by number, and the precedence, the list of symbols from the greatest on
pub record KboOrder : Type 0 where
  pub weights : List ℕ
  pub precedence : List ℕ

-- the weight of a symbol; one without a weight of its own weighs 1, as a variable does
abbrev pub symbol_weight : KboOrder → ℕ → ℕ
symbol_weight order f = slice_index_or order.weights f 1

-- the weight of a term: the sum over the occurrences of its variables and symbols
abbrev mutual
  pub weight : KboOrder → Tree → ℕ
  weight order (variable n) = 1
  weight order (apply f ts) = symbol_weight order f + weight_in order ts

  pub weight_in : KboOrder → Trees → ℕ
  weight_in order no_trees = 0
  weight_in order (more_trees t ts) = weight order t + weight_in order ts

-- how often x stands in the list
abbrev pub occurrences : ℕ → List ℕ → ℕ
occurrences x [] = 0
occurrences x (y ∷ ys) = cond (y == x) (suc (occurrences x ys)) (occurrences x ys)

-- each variable occurs at least as often in s as in t
abbrev pub HoldsVariables : Tree → Tree → Type 0
HoldsVariables s t = (n : ℕ) → occurrences n (variables_of t) ≤ occurrences n (variables_of s)

-- s is above t in the Knuth-Bendix order: each variable occurs at least as often in s as in t, and
--     s weighs more; or both weigh the same, and the symbol of s is above that of t, or they are the same and the
--     arguments of s are above at the first difference
pub data KboGreater (order : KboOrder) : Tree → Tree → Type 0 where
  heavier : {s t : Tree} → HoldsVariables s t → weight order t < weight order s → KboGreater order s t
  symbol_greater : {f g : ℕ} {ss ts : Trees} → HoldsVariables (apply f ss) (apply g ts) → weight order (apply f ss) ≡ weight order (apply g ts) → IsAbove order.precedence f g → KboGreater order (apply f ss) (apply g ts)
  arguments_greater : {f : ℕ} {ss ts : Trees} → HoldsVariables (apply f ss) (apply f ts) → weight order (apply f ss) ≡ weight order (apply f ts) → (front : List Tree) (s t : Tree) (after_s after_t : List Tree) → list_of ss ≡ front ++ s ∷ after_s → list_of ts ≡ front ++ t ∷ after_t → KboGreater order s t → KboGreater order (apply f ss) (apply f ts)

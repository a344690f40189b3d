-- The numbers of an interpretation in one list, symbol after symbol, the constant first; and what is searched.
use Rattle.std.specs.Prelude.{ℕ, ◌≤◌, ◌<◌, ◌≡◌, ◌⊎◌, Bool, true, false, List, [], ◌∷◌, ◌++◌, length, map, replicate, take, drop, All, Contains}
use Rattle.kb_term.specs.Rule.{Rule}
use Rattle.kb_term.specs.Signature.{Signature, SymbolEntry}
use Rattle.kb_linear.specs.LinearOrder.{Interpretation}
use Rattle.kb_linear.specs.Interpretations.{LinearOrients, interpretations_to}
use Rattle.kb_linear.specs.Limits.{IsSmall, interpretation_of}
use Rattle.kb_linear.specs.declared.search.Bounds.{Bounds}
use Rattle.kb_linear.specs.declared.search.Space.{Space}

abbrev pub numbers_of : Interpretation → List ℕ
numbers_of [] = []
numbers_of (row ∷ rows) = row.0 ∷ (row.1 ++ numbers_of rows)

-- how many coefficients each symbol has
abbrev pub shape_of : Interpretation → List ℕ
shape_of i = map (λ (row : ℕ × List ℕ). length row.1) i

-- the same constant for each symbol, and the same coefficient for each argument
abbrev pub uniform : Signature → ℕ → ℕ → Interpretation
uniform signature constant coefficient = map (λ (f : SymbolEntry). (constant, replicate f.arity coefficient)) signature

-- each number is at least that of the first list and at most that of the second
abbrev pub IsWithin : List ℕ → List ℕ → List ℕ → Type 0
IsWithin [] [] [] = Unit {0}
IsWithin (l ∷ ls) (m ∷ ms) (x ∷ xs) = (l ≤ x) × (x ≤ m) × IsWithin ls ms xs
IsWithin ls ms xs = ⊥

-- the lexicographic order of lists
abbrev pub IsLess : List ℕ → List ℕ → Type 0
IsLess (x ∷ xs) (y ∷ ys) = (x < y) ⊎ ((x ≡ y) × IsLess xs ys)
IsLess xs ys = ⊥

-- the members of a search: as many coefficients as in shape, and numbers within the bounds
pub record IsMember (shape : List ℕ) (bounds : Bounds) (i : Interpretation) : Type 0 where
  pub shape_is : shape_of i ≡ shape
  pub within : IsWithin bounds.least.items bounds.most.items (numbers_of i)

-- the first k numbers of both are the same
abbrev pub BeginsWith : ℕ → Interpretation → Interpretation → Type 0
BeginsWith k i j = take k (numbers_of i) ≡ take k (numbers_of j)

-- the bounds are members, and each member is small
pub record AreBounds (shape : List ℕ) (bounds : Bounds) : Type 0 where
  pub least_within : IsWithin bounds.least.items bounds.most.items bounds.least.items
  pub most_within : IsWithin bounds.least.items bounds.most.items bounds.most.items
  pub below : All (λ n. n ≤ 3) bounds.most.items
  pub small : (i : Interpretation) → IsMember shape bounds i → IsSmall i

abbrev pub low_of : Space → Interpretation
low_of space = interpretation_of space.low.items

abbrev pub high_of : Space → Interpretation
high_of space = interpretation_of space.high.items

-- the first k numbers are fixed; of the others low has the least and high the greatest
pub record IsAt (shape : List ℕ) (bounds : Bounds) (space : Space) (k : ℕ) : Type 0 where
  pub low_member : IsMember shape bounds (low_of space)
  pub high_member : IsMember shape bounds (high_of space)
  pub fixed : BeginsWith k (high_of space) (low_of space)
  pub low_rest : drop k (numbers_of (low_of space)) ≡ drop k bounds.least.items
  pub high_rest : drop k (numbers_of (high_of space)) ≡ drop k bounds.most.items

-- no member that begins as i does and comes before the list orients the rules
abbrev pub NoneBefore : List Rule → List ℕ → Bounds → ℕ → Interpretation → List ℕ → Type 0
NoneBefore rules shape bounds k i list =
    (j : Interpretation) → IsMember shape bounds j → BeginsWith k j i → IsLess (numbers_of j) list → ¬ LinearOrients j rules

-- start begins with the numbers that are fixed, and no member before it orients the rules
pub record IsStartAt (rules : List Rule) (shape : List ℕ) (bounds : Bounds) (space : Space) (k : ℕ) : Type 0 where
  pub within : IsWithin bounds.least.items bounds.most.items bounds.start.items
  pub begins : take k bounds.start.items ≡ take k (numbers_of (low_of space))
  pub first : NoneBefore rules shape bounds k (low_of space) bounds.start.items

-- found: low is now the first member with the fixed numbers that orients the rules; not found: none does, and all is as before
abbrev pub IsSearched : List Rule → List ℕ → Bounds → ℕ → Space → Space → Bool → Type 0
IsSearched rules shape bounds k old new true =
    IsMember shape bounds (low_of new)
    × BeginsWith k (low_of new) (low_of old)
    × LinearOrients (low_of new) rules
    × NoneBefore rules shape bounds k (low_of old) (numbers_of (low_of new))
IsSearched rules shape bounds k old new false =
    (low_of new ≡ low_of old)
    × (high_of new ≡ high_of old)
    × ((j : Interpretation) → IsMember shape bounds j → BeginsWith k j (low_of old) → ¬ LinearOrients j rules)

-- no interpretation with constants up to top and numbers before the list orients the rules
abbrev pub NoneLess : List Rule → Signature → ℕ → List ℕ → Type 0
NoneLess rules signature top list =
    (i : Interpretation) → Contains (interpretations_to signature top) i → IsLess (numbers_of i) list → ¬ LinearOrients i rules

-- Lists of terms by the places of their members.
use Rattle.std.specs.Prelude.{ℕ, zero, suc, ◌<◌, ◌≤◌, ◌≡◌, ◌⊎◌, List, [], ◌∷◌, length, map}
use Rattle.kb_term.specs.Tree.{Tree}
use Rattle.kb_term.specs.View.{tree_of}
use Rattle.kb_term.specs.declared.term.Term.{Term}
use Rattle.kb_lpo.specs.PathOrder.{LpoGreater}

-- the member at place k is u
abbrev pub At : List Tree → ℕ → Tree → Type 0
At [] k u = ⊥
At (x ∷ xs) zero u = x ≡ u
At (x ∷ xs) (suc k) u = At xs k u

-- P holds of the members from place n to before place i
abbrev pub Between : (Tree → Type 0) → List Tree → ℕ → ℕ → Type 0
Between P xs n i = (k : ℕ) (u : Tree) → n ≤ k → k < i → At xs k u → P u

-- the first n members are the same, and where both lists go on the next ones differ
pub record IsAgreement (ss ts : List Tree) (n : ℕ) : Type 0 where
  pub within_first : n ≤ length ss
  pub within_second : n ≤ length ts
  pub same : (k : ℕ) (u v : Tree) → k < n → At ss k u → At ts k v → u ≡ v
  pub differ : (u v : Tree) → At ss n u → At ts n v → ¬ (u ≡ v)

-- the term is neither t nor greater than t
abbrev pub IsNoWitness : List ℕ → Tree → Tree → Type 0
IsNoWitness p t u = ¬ (u ≡ t) × ¬ (LpoGreater p u t)

-- the term s is greater than each of the others from place n on
abbrev pub IsAboveEach : List ℕ → Tree → List Term → ℕ → Type 0
IsAboveEach p s ts n = Between (λ u. LpoGreater p s u) (map tree_of ts) n (length ts)

-- some member from place n on is t or greater than t
abbrev pub HasWitness : List ℕ → Tree → List Tree → ℕ → Type 0
HasWitness p t xs n = (k : ℕ) × (u : Tree) × (n ≤ k) × At xs k u × ((u ≡ t) ⊎ LpoGreater p u t)

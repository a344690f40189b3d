-- Lists of variables and terms that grow as a pattern is matched.
use Rattle.std.specs.Prelude.{ℕ, ◌≡◌, ◌==◌, true, false, List, [], ◌∷◌, ◌++◌, ⊤}
use Rattle.std.specs.List.{list_any}
use Rattle.kb_term.specs.Tree.{Tree}
use Rattle.kb_term.specs.Pair.{distinct}
use Rattle.kb_term.specs.Substitution.{substitution_of}
use Rattle.kb_match.specs.Matching.{listed_variables}

-- the substitution gives each listed variable each of its terms
abbrev pub Gives : (ℕ → Tree) → List (ℕ × Tree) → Type 0
Gives k [] = ⊤
Gives k (e ∷ es) = (k e.0 ≡ e.1) × Gives k es

-- the variable isn't listed
abbrev pub IsAbsent : ℕ → List (ℕ × Tree) → Type 0
IsAbsent n es = list_any (λ y. y == n) (listed_variables es) ≡ false

-- the variable is listed, first with the term t
abbrev pub IsPresent : ℕ → Tree → List (ℕ × Tree) → Type 0
IsPresent n t es = (list_any (λ y. y == n) (listed_variables es) ≡ true) × (substitution_of es n ≡ t)

-- the variables xs are added, and the substitutions that give what is listed are those that gave it before and meet E
pub record IsExtended (xs : List ℕ) (E : (ℕ → Tree) → Type 0) (old new : List (ℕ × Tree)) : Type 0 where
  pub variables : (vs : List ℕ) → listed_variables old ≡ distinct vs → listed_variables new ≡ distinct (vs ++ xs)
  pub there : (k : ℕ → Tree) → Gives k old → E k → Gives k new
  pub back : (k : ℕ → Tree) → Gives k new → Gives k old × E k
  pub single : Gives (substitution_of old) old → Gives (substitution_of new) new

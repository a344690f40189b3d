-- What matching answers.
use Rattle.std.specs.Prelude.{ℕ, ◌≡◌, List, map, Option, Some, None}
use Rattle.kb_term.specs.Tree.{Tree, variables_of}
use Rattle.kb_term.specs.Pair.{distinct}
use Rattle.kb_term.specs.Substitution.{instance, substitution_of, Matches}

-- the variables that the list gives terms to
abbrev pub listed_variables : List (ℕ × Tree) → List ℕ
listed_variables m = map (λ (e : ℕ × Tree). e.0) m

-- the list makes the pattern the subject, and has the variables of the pattern alone, each once, in the order of first occurrence
pub record IsMatchList (m : List (ℕ × Tree)) (pattern subject : Tree) : Type 0 where
  pub variables : listed_variables m ≡ distinct (variables_of pattern)
  pub makes : instance (substitution_of m) pattern ≡ subject

-- a match, or none where the pattern doesn't match the subject
abbrev pub IsMatchAnswer : Tree → Tree → Option (List (ℕ × Tree)) → Type 0
IsMatchAnswer pattern subject (Some m) = IsMatchList m pattern subject
IsMatchAnswer pattern subject None = ¬ Matches pattern subject

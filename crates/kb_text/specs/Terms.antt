-- Terms and problems as they are written.
use Rattle.std.specs.Prelude.{◌≡◌, ℕ, zero, suc, ◌+◌, ◌<◌, ◌≤◌, max, List, [], ◌∷◌, ◌++◌, map, flat_map, length, replicate, drop, get_or, Bool, not, ◌&&◌, nat_eq, nat_le, nat_lt, Some, All, find, unwrap_or, codes, decimal}
use Rattle.std.specs.List.{starts_with, list_all, list_any, range_with_len}
use Rattle.kb_term.specs.Tree.{Tree, variable, apply, Trees, no_trees, more_trees, variables_of}
use Rattle.kb_text.specs.Names.{Name}
use Rattle.kb_text.specs.Lines.{line}
use Rattle.kb_term.specs.Signature.{SymbolEntry, Signature, Problem, IsTermWithinLimits, name_at}
pub use Rattle.kb_term.specs.Signature.{names_of}
use Rattle.kb_term.specs.Pair.{Pair, canonical_pair, variables_of_pair}
use Rattle.kb_term.specs.declared.limits.TheConstants.{MAX_VARIABLES}

-- ---- the prefix of variables

abbrev pub is_digit : ℕ → Bool
is_digit b = nat_le 48 b && nat_le b 57

-- n letters x, then one or more digits, and nothing else
abbrev pub is_x_number : ℕ → Name → Bool
is_x_number n name = starts_with nat_eq name (replicate n 120) && nat_lt n (length name) && list_all is_digit (drop n name)

-- The least number from 1 up such that no name is so many letters x and a number. A name is so for one number at most, so the least is at most one more than there are names.
abbrev pub prefix_length : List Name → ℕ
prefix_length names = unwrap_or (find (λ n. not (list_any (is_x_number n) names)) (range_with_len 1 (length names + 1))) 1

abbrev pub variable_text : List Name → ℕ → List ℕ
variable_text names n = replicate (prefix_length names) 120 ++ decimal (n + 1)

-- ---- terms

abbrev pub symbol_text : List Name → ℕ → List ℕ
symbol_text names f = name_at names f

-- without blanks; a symbol of arity 0 without parentheses
abbrev mutual
  pub term_text : List Name → Tree → List ℕ
  term_text names (variable n) = variable_text names n
  term_text names (apply f ts) = symbol_text names f ++ arguments_text names ts

  pub arguments_text : List Name → Trees → List ℕ
  arguments_text names no_trees = []
  arguments_text names (more_trees t ts) = codes "(" ++ term_text names t ++ later_text names ts ++ codes ")"

  -- with a comma before each
  pub later_text : List Name → Trees → List ℕ
  later_text names no_trees = []
  later_text names (more_trees t ts) = codes "," ++ term_text names t ++ later_text names ts

-- what stands before the argument with this number, from 0
abbrev pub separator : ℕ → ℕ
separator zero = 40
separator (suc n) = 44

-- The bytes are the text of a term over the signature, within size and depth and with variables below 64.
pub record TermSpelled (sig : Signature) (bytes : List ℕ) (t : Tree) : Type 0 where
  pub within : IsTermWithinLimits sig t
  pub variables : All (λ n. n < MAX_VARIABLES) (variables_of t)
  pub spelling : bytes ≡ term_text (names_of sig) t

-- a pair that isn't trivial and canonical, of terms within the limits, with at most 64 variables
pub record IsPairForm (sig : Signature) (p : Pair) : Type 0 where
  pub first : IsTermWithinLimits sig p.first
  pub second : IsTermWithinLimits sig p.second
  pub variables : length (variables_of_pair p.first p.second) ≤ MAX_VARIABLES
  pub canonical : canonical_pair p.first p.second ≡ Some p

-- ---- problems

-- how many variables an equation has
abbrev pub variable_count : Tree × Tree → ℕ
variable_count e = length (variables_of_pair e.0 e.1)

abbrev pub most_variables : List (Tree × Tree) → ℕ
most_variables [] = 0
most_variables (e ∷ es) = max (variable_count e) (most_variables es)

abbrev pub infix_text : List Name → List ℕ → Tree → Tree → List (List ℕ)
infix_text names sign s t = term_text names s ∷ sign ∷ term_text names t ∷ []

abbrev pub problem_line : List Name → Tree × Tree → List ℕ
problem_line names e = line (infix_text names (codes "==") e.0 e.1)

-- a line of variables, and a line for each equation
abbrev pub problem_text : Problem → List ℕ
problem_text p = let names = names_of p.signature in
    codes "(VAR" ++ flat_map (λ n. 32 ∷ variable_text names n) (range_with_len 0 (most_variables p.equations)) ++ codes ")\n"
    ++ codes "(RULES\n" ++ flat_map (problem_line names) p.equations ++ codes ")\n"

-- The problem that a text of the grammar stands for, and what is asked of the text beside the grammar.
use Rattle.std.specs.Prelude.{◌≡◌, ℕ, ◌+◌, max, ◌≤◌, List, [], ◌∷◌, ◌++◌, map, length, Bool, true, false, not, ◌&&◌, cond, nat_le, nat_eq, Option, Some, None, IsTrue, IsUtf8, flat_map, unwrap_or, filter, bytes_eq}
use Rattle.std.specs.List.{AllByRecursion, list_all, list_any}
use Rattle.kb_term.specs.Tree.{Tree, variable, apply, Trees, no_trees, more_trees}
use Rattle.kb_term.specs.Signature.{SymbolEntry, Problem}
use Rattle.kb_text.specs.Names.{Name, is_among, firsts, number_of, are_distinct}
use Rattle.kb_text.specs.Tokens.{tokens}
use Rattle.kb_text.specs.Grammar.{Written, alone, applied, Arguments, no_arguments, argument, WrittenEquation, Section, variables, rules, skipped, IsSection, text_tokens}
use Rattle.kb_term.specs.declared.limits.TheConstants.{MAX_ARITY, MAX_DEPTH, MAX_EQUATIONS, MAX_NAME_BYTES, MAX_PROBLEM_BYTES, MAX_SIZE, MAX_SYMBOLS, MAX_VARIABLES}

-- ---- what stands in a text

-- the names of the sections of variables
abbrev pub variables_of : List Section → List Name
variables_of [] = []
variables_of (variables xs ∷ ss) = xs ++ variables_of ss
variables_of (rules es ∷ ss) = variables_of ss
variables_of (skipped name ts ∷ ss) = variables_of ss

-- the equations of all sections of rules
abbrev pub equations_of : List Section → List WrittenEquation
equations_of [] = []
equations_of (variables xs ∷ ss) = equations_of ss
equations_of (rules es ∷ ss) = es ++ equations_of ss
equations_of (skipped name ts ∷ ss) = equations_of ss

-- the identifiers of a term, from the left
abbrev mutual
  pub names_in : Written → List Name
  names_in (alone c) = c ∷ []
  names_in (applied f ts) = f ∷ names_in_all ts

  pub names_in_all : Arguments → List Name
  names_in_all no_arguments = []
  names_in_all (argument t ts) = names_in t ++ names_in_all ts

abbrev pub count_of : Arguments → ℕ
count_of no_arguments = 0
count_of (argument t ts) = count_of ts + 1

-- each use of a name in a term, with its number of arguments, in the order in which the uses end
abbrev mutual
  pub uses_in : Written → List (Name × ℕ)
  uses_in (alone c) = (c, 0) ∷ []
  uses_in (applied f ts) = uses_in_all ts ++ (f, count_of ts) ∷ []

  pub uses_in_all : Arguments → List (Name × ℕ)
  uses_in_all no_arguments = []
  uses_in_all (argument t ts) = uses_in t ++ uses_in_all ts

-- the number of arguments of the first use of a name
abbrev pub arity_in : List (Name × ℕ) → Name → Option ℕ
arity_in [] name = None
arity_in (u ∷ us) name = cond (bytes_eq name u.0) (Some u.1) (arity_in us name)

abbrev mutual
  pub depth_in : Written → ℕ
  depth_in (alone c) = 1
  depth_in (applied f ts) = depth_in_all ts + 1

  pub depth_in_all : Arguments → ℕ
  depth_in_all no_arguments = 0
  depth_in_all (argument t ts) = max (depth_in t) (depth_in_all ts)

abbrev pub sides_of : List WrittenEquation → List Written
sides_of [] = []
sides_of (e ∷ es) = e.left ∷ e.right ∷ sides_of es

abbrev pub all_names : List WrittenEquation → List Name
all_names es = flat_map names_in (sides_of es)

abbrev pub all_uses : List WrittenEquation → List (Name × ℕ)
all_uses es = flat_map uses_in (sides_of es)

-- those names that are variables; that aren't
abbrev pub variables_among : List Name → List Name → List Name
variables_among vars names = filter (is_among vars) names

abbrev pub symbols_among : List Name → List Name → List Name
symbols_among vars names = filter (λ x. not (is_among vars x)) names

-- ---- the problem

-- the term, with these variables and symbols numbered by their places in these lists
abbrev mutual
  pub term_of : List Name → List Name → Written → Tree
  term_of vars symbols (alone c) = cond (is_among vars c) (variable (number_of vars c)) (apply (number_of symbols c) no_trees)
  term_of vars symbols (applied f ts) = apply (number_of symbols f) (terms_of vars symbols ts)

  pub terms_of : List Name → List Name → Arguments → Trees
  terms_of vars symbols no_arguments = no_trees
  terms_of vars symbols (argument t ts) = more_trees (term_of vars symbols t) (terms_of vars symbols ts)

-- the function symbols by first occurrence
abbrev pub symbol_names : List Section → List Name
symbol_names ss = firsts (symbols_among (variables_of ss) (all_names (equations_of ss)))

-- the variables of an equation by first occurrence, left side first
abbrev pub equation_variables : List Name → WrittenEquation → List Name
equation_variables vars e = firsts (variables_among vars (names_in e.left ++ names_in e.right))

abbrev pub equation_of : List Name → List Name → WrittenEquation → Tree × Tree
equation_of vars symbols e = (term_of (equation_variables vars e) symbols e.left, term_of (equation_variables vars e) symbols e.right)

-- a symbol has the arity of its first use whose end is reached
abbrev pub entry_of : List (Name × ℕ) → Name → SymbolEntry
entry_of uses name = record { name = name; arity = unwrap_or (arity_in uses name) 0 }

abbrev pub problem_of : List Section → Problem
problem_of ss = record {
  signature = map (entry_of (all_uses (equations_of ss))) (symbol_names ss);
  equations = map (equation_of (variables_of ss) (symbol_names ss)) (equations_of ss);
}

-- ---- what is asked beside the grammar

abbrev pub is_variables : Section → Bool
is_variables (variables xs) = true
is_variables (rules es) = false
is_variables (skipped name ts) = false

abbrev pub is_rules : Section → Bool
is_rules (variables xs) = false
is_rules (rules es) = true
is_rules (skipped name ts) = false

-- no section of variables stands behind one of rules
abbrev pub are_ordered : List Section → Bool
are_ordered [] = true
are_ordered (variables xs ∷ ss) = are_ordered ss
are_ordered (rules es ∷ ss) = not (list_any is_variables ss)
are_ordered (skipped name ts ∷ ss) = are_ordered ss

-- the identifiers of a section; those of a skipped one but for its name aren't looked at
abbrev pub names_of_section : Section → List Name
names_of_section (variables xs) = xs
names_of_section (rules es) = all_names es
names_of_section (skipped name ts) = name ∷ []

-- none of these names stands before parentheses
abbrev mutual
  pub is_unapplied : List Name → Written → Bool
  is_unapplied vars (alone c) = true
  is_unapplied vars (applied f ts) = not (is_among vars f) && are_unapplied vars ts

  pub are_unapplied : List Name → Arguments → Bool
  are_unapplied vars no_arguments = true
  are_unapplied vars (argument t ts) = is_unapplied vars t && are_unapplied vars ts

-- each use has as many arguments as the first of its name
abbrev pub agree : List (Name × ℕ) → Bool
agree uses = list_all (λ (u : Name × ℕ). nat_eq u.1 (unwrap_or (arity_in uses u.0) 0)) uses

-- the side conditions
pub record MeetsConditions (ss : List Section) : Type 0 where
  pub ordered : IsTrue (are_ordered ss)
  pub has_rules : IsTrue (list_any is_rules ss)
  pub distinct : IsTrue (are_distinct (variables_of ss))
  pub unapplied : IsTrue (list_all (is_unapplied (variables_of ss)) (sides_of (equations_of ss)))
  pub one_arity : IsTrue (agree (all_uses (equations_of ss)))

-- the limits
pub record MeetsLimits (ss : List Section) : Type 0 where
  pub names : IsTrue (list_all (λ (x : Name). nat_le (length x) MAX_NAME_BYTES) (flat_map names_of_section ss))
  pub equations : IsTrue (nat_le (length (equations_of ss)) MAX_EQUATIONS)
  pub size : IsTrue (list_all (λ t. nat_le (length (names_in t)) MAX_SIZE) (sides_of (equations_of ss)))
  pub depth : IsTrue (list_all (λ t. nat_le (depth_in t) MAX_DEPTH) (sides_of (equations_of ss)))
  pub symbols : IsTrue (nat_le (length (symbol_names ss)) MAX_SYMBOLS)
  pub arity : IsTrue (list_all (λ (u : Name × ℕ). nat_le u.1 MAX_ARITY) (all_uses (equations_of ss)))
  pub variables_each : IsTrue (list_all (λ e. nat_le (length (equation_variables (variables_of ss) e)) MAX_VARIABLES) (equations_of ss))

-- The bytes spell the problem: their tokens are those of sections that meet the conditions and the limits, and stand for it.
pub record Spells (bytes : List ℕ) (problem : Problem) : Type 0 where
  pub short : length bytes ≤ MAX_PROBLEM_BYTES
  pub utf8 : IsUtf8 bytes
  pub sections : List Section
  pub are_sections : AllByRecursion IsSection sections
  pub tokens_are : tokens bytes ≡ text_tokens sections
  pub conditions : MeetsConditions sections
  pub limits : MeetsLimits sections
  pub stands_for : problem ≡ problem_of sections

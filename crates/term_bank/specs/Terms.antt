-- A bank as the list of its cells' terms.
--     HasTerm, LacksTerm, term_at      the term of a cell, and that no cell has a term
--     AreDistinct, HaveSubterms      each term once, and its arguments before it
--     subterms, with_missing      what comes in with a term
use Rattle.std.specs.Prelude.{ℕ, ◌≡◌, ◌<◌, List, [], ◌∷◌, ◌++◌, map, slice_get, slice_index_or, Some, Contains, if◌then◌else◌}
use Rattle.std.specs.List.{list_any, AllByRecursion}
use Rattle.kb_term.specs.Tree.{Tree, Trees, variable, apply, no_trees, more_trees, trees_of, list_of, tree_eq}
use Rattle.term_bank.specs.declared.cell.TermId.{TermId}
use Rattle.term_bank.specs.declared.cell.Cell.{Cell}
use Rattle.term_bank.specs.declared.cell.Cell.TheVariants.{Var, App}

-- the cell with this number has the term
abbrev pub HasTerm : List Tree → ℕ → Tree → Type 0
HasTerm terms i t = slice_get terms i ≡ Some t

-- no cell has the term
abbrev pub LacksTerm : List Tree → Tree → Type 0
LacksTerm terms t = (i : ℕ) → HasTerm terms i t → ⊥

-- no two cells have one term
abbrev pub AreDistinct : List Tree → Type 0
AreDistinct terms = (i j : ℕ) (t : Tree) → HasTerm terms i t → HasTerm terms j t → i ≡ j

-- each argument of a cell's term is the term of an earlier cell
abbrev pub HaveSubterms : List Tree → Type 0
HaveSubterms terms = (i f : ℕ) (ts : Trees) → HasTerm terms i (apply f ts) → (t : Tree) → Contains (list_of ts) t → (j : ℕ) × (j < i) × HasTerm terms j t

-- the term of the cell with this number, which is there
abbrev pub term_at : List Tree → ℕ → Tree
term_at terms i = slice_index_or terms i (variable 0)

-- the terms of the cells that are named
abbrev pub terms_at : List Tree → List TermId → List Tree
terms_at terms ids = map (λ (id : TermId). term_at terms id.0) ids

-- each of the cells comes before an end
abbrev pub AreBelow : ℕ → List TermId → Type 0
AreBelow end ids = AllByRecursion (λ (id : TermId). id.0 < end) ids

-- the term that a cell shows
abbrev pub shown : List Tree → Cell → Tree
shown terms (Var n) = variable n
shown terms (App f ids) = apply f.0 (trees_of (terms_at terms ids.now))

-- the arguments that a cell shows
abbrev pub shown_arguments : Cell → List TermId
shown_arguments (Var n) = []
shown_arguments (App f ids) = ids.now

-- the subterms of a term, arguments before the term, from left to right
abbrev mutual
  pub subterms : Tree → List Tree
  subterms (variable n) = variable n ∷ []
  subterms (apply f ts) = subterms_in ts ++ apply f ts ∷ []

  pub subterms_in : Trees → List Tree
  subterms_in no_trees = []
  subterms_in (more_trees t ts) = subterms t ++ subterms_in ts

-- the term at the end, where no cell has it
abbrev pub with_term : List Tree → Tree → List Tree
with_term terms t = if list_any (tree_eq t) terms then terms else terms ++ t ∷ []

-- each of the terms at the end in its turn, where no cell has it
abbrev pub with_missing : List Tree → List Tree → List Tree
with_missing terms [] = terms
with_missing terms (t ∷ ts) = with_missing (with_term terms t) ts

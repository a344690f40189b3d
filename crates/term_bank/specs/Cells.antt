-- What the cells of a bank keep of their terms.
use Rattle.std.specs.Prelude.{ℕ, ◌≡◌, ◌+◌, ◌<◌, ◌≤◌, List, [], ◌∷◌, ◌++◌, length, map, take, drop, slice_get, Some}
use Rattle.kb_term.specs.Tree.{Tree, variable, apply, trees_of, tree_size, tree_depth}
use Rattle.term_bank.specs.Hashing.{tree_hash}
use Rattle.term_bank.specs.Terms.{term_at, terms_at, AreBelow, AreDistinct}
use Rattle.term_bank.specs.declared.cell.TermId.{TermId}
use Rattle.term_bank.specs.declared.cell.Entry.{Entry}
use Rattle.term_bank.specs.declared.cell.Head.{Head}
use Rattle.term_bank.specs.declared.cell.Head.TheVariants.{Var, App}

-- the term with a head and arguments
abbrev pub term_with : Head → List Tree → Tree
term_with (Var n) ts = variable n
term_with (App f) ts = apply f.0 (trees_of ts)

-- the arguments of a cell
abbrev pub ids_of : List TermId → Entry → List TermId
ids_of arguments e = take e.count (drop e.start arguments)

-- the terms of cells, of which each is made of the terms before it
abbrev pub terms_of : List Entry → List TermId → List Tree → List Tree
terms_of [] arguments before = before
terms_of (e ∷ es) arguments before = terms_of es arguments (before ++ term_with e.head (terms_at before (ids_of arguments e)) ∷ [])

-- what the cell with this number keeps
pub record IsCell (arguments : List TermId) (terms : List Tree) (i : ℕ) (e : Entry) : Type 0 where
  pub within : e.start + e.count ≤ length arguments
  pub below : AreBelow i (ids_of arguments e)
  pub term : term_at terms i ≡ term_with e.head (terms_at terms (ids_of arguments e))
  pub size : e.size ≡ tree_size (term_at terms i)
  pub depth : e.depth ≡ tree_depth (term_at terms i)

-- the cells keep the terms, whose hashes are told, each once, and their arguments in the order of the cells
pub record AreCells (terms : List Tree) (hashes : List ℕ) (cells : List Entry) (arguments : List TermId) : Type 0 where
  pub few : length cells ≤ 4194304
  pub same : length terms ≡ length cells
  pub each : (i : ℕ) (e : Entry) → slice_get cells i ≡ Some e → IsCell arguments terms i e
  pub rows : (i j : ℕ) (d e : Entry) → slice_get cells i ≡ Some d → slice_get cells j ≡ Some e → i < j → d.start + d.count ≤ e.start
  pub hashed : hashes ≡ map tree_hash terms
  pub distinct : AreDistinct terms

-- the terms of a bank's cells
abbrev pub terms_in : List Entry → List TermId → List Tree
terms_in cells arguments = terms_of cells arguments []

abbrev pub IsBank : List ℕ → List Entry → List TermId → Type 0
IsBank hashes cells arguments = AreCells (terms_in cells arguments) hashes cells arguments

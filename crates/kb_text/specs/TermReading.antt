-- What a text begins with: a name, or the text of a term over a signature.
use Rattle.std.specs.Prelude.{◌≡◌, ℕ, zero, suc, ◌-◌, ◌<◌, ◌≤◌, ◌==◌, List, [], ◌∷◌, ◌++◌, Bool, true, false, ◌||◌, length, drop, ⊤, Option, MatchOption}
use Rattle.kb_term.specs.Tree.{Tree, variable, apply, Trees, no_trees, more_trees, list_of, trees_of}
use Rattle.kb_term.specs.Signature.{Signature, HasArity}
use Rattle.kb_text.specs.Terms.{names_of, term_text, arguments_text}
use Rattle.kb_term.specs.declared.limits.TheConstants.{MAX_VARIABLES}

-- parentheses and the comma end a name in the text of a term
abbrev pub ends_name : ℕ → Bool
ends_name b = b == 40 || b == 41 || b == 44

-- no byte of these ends a name
abbrev pub IsInName : List ℕ → Type 0
IsInName [] = ⊤
IsInName (b ∷ bytes) = (ends_name b ≡ false) × IsInName bytes

-- no name goes on here
abbrev pub IsNameEnd : List ℕ → Type 0
IsNameEnd [] = ⊤
IsNameEnd (b ∷ bytes) = ends_name b ≡ true

-- terms over the signature of at most this depth, with variables below 64
abbrev mutual
  pub IsBounded : Signature → ℕ → Tree → Type 0
  IsBounded signature depth (variable n) = (1 ≤ depth) × (n < MAX_VARIABLES)
  IsBounded signature depth (apply f ts) = (1 ≤ depth) × HasArity signature f (length (list_of ts)) × AreBounded signature (depth - 1) ts

  pub AreBounded : Signature → ℕ → Trees → Type 0
  AreBounded signature depth no_trees = ⊤
  AreBounded signature depth (more_trees t ts) = IsBounded signature depth t × AreBounded signature depth ts

-- the text begins with that of the term, which takes so many bytes and ends where a name ends
pub record BeginsWithTerm (signature : Signature) (text : List ℕ) (depth : ℕ) (t : Tree) (size : ℕ) : Type 0 where
  pub bounded : IsBounded signature depth t
  pub within : size ≤ length text
  pub spelling : text ≡ term_text (names_of signature) t ++ drop size text
  pub ends : IsNameEnd (drop size text)

-- it begins with that of no term
abbrev pub BeginsWithNone : Signature → List ℕ → ℕ → Type 0
BeginsWithNone signature text depth = (t : Tree) (rest : List ℕ) → IsBounded signature depth t → IsNameEnd rest → ¬ (text ≡ term_text (names_of signature) t ++ rest)

-- it begins with what stands behind a symbol that has these arguments, so many, each of at most this depth; it takes so many bytes
pub record BeginsWithArguments (signature : Signature) (text : List ℕ) (depth arity : ℕ) (ts : List Tree) (size : ℕ) : Type 0 where
  pub bounded : AreBounded signature depth (trees_of ts)
  pub count : length ts ≡ arity
  pub within : size ≤ length text
  pub spelling : text ≡ arguments_text (names_of signature) (trees_of ts) ++ drop size text
  pub ends : IsNameEnd (drop size text)

-- it begins with no such arguments
abbrev pub BeginsWithNoArguments : Signature → List ℕ → ℕ → ℕ → Type 0
BeginsWithNoArguments signature text depth arity = (ts : Trees) (rest : List ℕ) → AreBounded signature depth ts → length (list_of ts) ≡ arity → IsNameEnd rest → ¬ (text ≡ arguments_text (names_of signature) ts ++ rest)

-- how many bytes the arguments take with which the text begins; none where it begins with no such arguments
abbrev pub AreArgumentsRead : Signature → List ℕ → ℕ → ℕ → List Tree → Option ℕ → Type 0
AreArgumentsRead signature text depth arity ts size =
    MatchOption size (BeginsWithNoArguments signature text depth arity) (BeginsWithArguments signature text depth arity ts)

-- the closing parenthesis behind so many arguments, where there are any
abbrev pub closing_text : ℕ → List ℕ
closing_text zero = []
closing_text (suc n) = 41 ∷ []

-- it takes the first bytes of the text, so many
pub record IsClosed (text : List ℕ) (arguments size : ℕ) : Type 0 where
  pub within : size ≤ length text
  pub spelling : text ≡ closing_text arguments ++ drop size text
  pub ends : IsNameEnd (drop size text)

-- Four constants, as examples.
use Rattle.std.specs.Prelude.{ℕ, [], ◌∷◌}
use Rattle.kb_term.specs.Tree.{Tree, apply, no_trees}
use Rattle.kb_term.specs.Signature.{Signature, SymbolEntry}

-- the constant with this number
abbrev pub constant : ℕ → Tree
constant f = apply f no_trees

-- a symbol without arguments
abbrev pub nullary : SymbolEntry
nullary = record { name = []; arity = 0 }

-- the signature of the constants from 0 to 3
abbrev pub four_constants : Signature
four_constants = nullary ∷ nullary ∷ nullary ∷ nullary ∷ []

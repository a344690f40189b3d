-- Variables bound to subterms that are only borrowed.
use Rattle.std.specs.Prelude.{ℕ, List, [], ◌∷◌, Option, Some, None}
use Rattle.std.specs.Borrow.{Bor}
use Rattle.kb_term.specs.Tree.{Tree}
use Rattle.kb_term.specs.View.{tree_of}
use Rattle.kb_term.specs.declared.term.Term.{Term}

-- the entries that a list of places of the program is: a variable and a borrowed term at each place that is taken
abbrev pub bindings_of_list : List (Option (ℕ × Bor Term)) → List (ℕ × Tree)
bindings_of_list [] = []
bindings_of_list (None ∷ es) = bindings_of_list es
bindings_of_list (Some e ∷ es) = (e.0, tree_of e.1.now) ∷ bindings_of_list es

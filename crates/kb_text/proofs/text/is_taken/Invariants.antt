use Rattle.std.proofs.Common.{◌≡◌, drop}
use Rattle.std.specs.List.{list_any}
use Rattle.kb_term.specs.Signature.{symbols_of_list}
use Rattle.kb_text.specs.Terms.{is_x_number, names_of}
use Rattle.kb_text.proofs.text.is_taken.Given as goal

-- the names that are left decide
abbrev pub invariant-loop-symbol : goal.invariant-loop-symbol
invariant-loop-symbol l = list_any (is_x_number l.n) (names_of (symbols_of_list l.symbols)) ≡ list_any (is_x_number l.n) (names_of (symbols_of_list (drop l.symbol-index l.symbols)))

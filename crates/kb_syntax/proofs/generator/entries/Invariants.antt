use Rattle.std.proofs.Common.{◌≡◌}
use Rattle.std.specs.Prelude.{map, take}
use Rattle.kb_term.specs.Signature.{symbols_of_list}
use Rattle.kb_syntax.specs.Generator.{letter_entry}
use Rattle.kb_syntax.proofs.generator.entries.Given as goal

-- the entries of the letters so far
abbrev pub invariant-loop-letter : goal.invariant-loop-letter
invariant-loop-letter l = symbols_of_list l.symbols.items ≡ map letter_entry (take l.letter-index l.letters)

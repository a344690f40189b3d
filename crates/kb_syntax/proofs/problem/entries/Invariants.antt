use Rattle.std.proofs.Common.{◌≡◌}
use Rattle.std.specs.Prelude.{map, take}
use Rattle.kb_term.specs.Signature.{symbols_of_list}
use Rattle.kb_text.specs.Problems.{entry_of}
use Rattle.kb_syntax.proofs.problem.entries.Given as goal

-- the symbols so far have their entries
abbrev pub invariant-loop-name : goal.invariant-loop-name
invariant-loop-name l = symbols_of_list l.symbols.items ≡ map (entry_of l.uses) (map (λ n. n.items) (take l.name-index l.names))

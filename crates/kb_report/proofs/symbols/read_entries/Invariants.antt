use Rattle.std.proofs.Common.{◌≡◌, ◌≤◌, drop, take, All}
use Rattle.std.specs.Prelude.{map}
use Rattle.kb_term.specs.Signature.{SymbolEntry, symbols_of_list}
use Rattle.kb_report.specs.Answers.{entry_text}
use Rattle.kb_report.proofs.symbols.read_entries.Given as goal

-- the symbols so far are those of the fields so far
abbrev pub invariant-loop-k : goal.invariant-loop-k
invariant-loop-k l = record {
  small : All (λ (f : SymbolEntry). f.arity ≤ 8) (symbols_of_list l.symbols.items);
  entries : map entry_text (symbols_of_list l.symbols.items) ≡ drop 1 (take l.k l.fields);
}

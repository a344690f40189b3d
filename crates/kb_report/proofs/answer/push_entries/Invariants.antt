use Rattle.std.proofs.Common.{◌≡◌, ◌++◌}
use Rattle.std.specs.Prelude.{map, take}
use Rattle.kb_term.specs.Signature.{symbols_of_list}
use Rattle.kb_report.specs.Answers.{entry_text}
use Rattle.kb_report.proofs.answer.push_entries.Given as goal

-- the symbols so far were added
abbrev pub invariant-loop-symbol : goal.invariant-loop-symbol
invariant-loop-symbol l = l.line ≡ l.fn.line ++ map entry_text (symbols_of_list (take l.symbol-index l.symbols))

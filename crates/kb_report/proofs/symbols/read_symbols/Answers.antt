use Rattle.std.proofs.Common.{[], drop}
use Rattle.kb_report.specs.SystemSections.{AreSymbols, symbols_body}
use Rattle.kb_report.proofs.SystemLines.{symbols_without}
use Rattle.kb_report.proofs.NamesRead.{no_symbols}
use Rattle.kb_report.proofs.ReadLines.{bad_without, bad_other}
use Rattle.kb_report.proofs.symbols.read_symbols.Goals as goal

pub returns-in_default-clause-fault : goal.returns-in_default-clause-fault
returns-in_default-clause-fault c = bad_without AreSymbols symbols_body c.args.text.now c.args.first [] no_symbols c.in_default.ensures.line

pub returns-in-None-clause-fault : goal.returns-in-None-clause-fault
returns-in-None-clause-fault c =
    bad_other AreSymbols symbols_body c.args.text.now c.in-Some.line.now (drop c.in-Some.size c.args.text.now) c.args.first [] no_symbols symbols_without c.in-Some.ensures.line (rw c.in-None.is at c.in_ok-signature.ensures)

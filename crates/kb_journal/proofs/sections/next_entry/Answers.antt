use Rattle.std.proofs.Common.{drop}
use Rattle.kb_report.proofs.ReadLines.{no_line_of, other_line}
use Rattle.kb_journal.specs.EntryLines.{IsEntryLine}
use Rattle.kb_journal.specs.JournalSections.{entry_body}
use Rattle.kb_journal.proofs.LineLaws.{entry_without}
use Rattle.kb_journal.proofs.sections.next_entry.Goals as goal

pub returns-in_default-clause-read : goal.returns-in_default-clause-read
returns-in_default-clause-read c = no_line_of IsEntryLine entry_body c.args.text.now c.in_default.ensures.line

pub returns-in-None-clause-read : goal.returns-in-None-clause-read
returns-in-None-clause-read c =
    other_line IsEntryLine entry_body c.args.text.now c.in-Some.line.now (drop c.in-Some.size c.args.text.now) entry_without c.in-Some.ensures.line (rw c.in-None.is at c.in_ok-entry.ensures)

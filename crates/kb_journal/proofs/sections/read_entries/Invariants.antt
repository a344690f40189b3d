use Rattle.std.proofs.Common.{◌≡◌, ◌≤◌, length}
use Rattle.kb_report.proofs.SectionLaws.{AreReadItems}
use Rattle.kb_journal.specs.EntryLines.{IsEntryLine}
use Rattle.kb_journal.specs.JournalSections.{entry_body}
use Rattle.kb_journal.proofs.sections.read_entries.Given as goal

-- the entries so far were read, each took a byte at the least, and the next line begins at the place
abbrev pub invariant-loop-k : goal.invariant-loop-k
invariant-loop-k l = record {
  read : AreReadItems IsEntryLine (λ k. entry_body) l.text l.entries.items l.at;
  count : length l.entries.items ≡ l.k;
  bytes : l.k ≤ l.at;
}

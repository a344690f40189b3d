use Rattle.std.proofs.Common.{◌≡◌, ◌++◌, map, take}
use Rattle.std.specs.Prelude.{flat_map}
use Rattle.mkb_rules.specs.Parts.{plain_nodes}
use Rattle.kb_journal.specs.EntryLines.{line_of}
use Rattle.kb_journal.specs.Journals.{entry_line}
use Rattle.kb_journal.proofs.text.push_entries.Given as goal

-- the lines of the entries so far
abbrev pub invariant-loop-entry : goal.invariant-loop-entry
invariant-loop-entry l = l.out.items ≡ l.initial.out.items ++ flat_map entry_line (map (line_of (plain_nodes l.nodes)) (take l.entry-index l.entries))

use Rattle.std.proofs.Common.{◌≡◌, ◌++◌, sym, subst}
use Rattle.std.specs.Prelude.{OnOk}
use Rattle.kb_journal.specs.declared.entry_line.EntryLine.{EntryLine}
use Rattle.kb_journal.specs.EntryLines.{entry_fields}
use Rattle.kb_journal.proofs.entry_text.push_committed.Goals as goal

pub returns-in-Oriented : goal.returns-in-Oriented
returns-in-Oriented c = subst {A = EntryLine} (λ l. OnOk c.push_counting-in-Oriented.result (c.push_counting-in-Oriented.new.fields ≡ c.args.fields.now ++ entry_fields l)) (sym c.in-Oriented.is) c.push_counting-in-Oriented.ensures

pub returns-in-Unjoined : goal.returns-in-Unjoined
returns-in-Unjoined c = subst {A = EntryLine} (λ l. OnOk c.push_counting-in-Unjoined.result (c.push_counting-in-Unjoined.new.fields ≡ c.args.fields.now ++ entry_fields l)) (sym c.in-Unjoined.is) c.push_counting-in-Unjoined.ensures

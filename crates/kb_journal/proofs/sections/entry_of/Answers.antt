use Rattle.std.proofs.Common.{sym, ◌∙◌, ap, subst}
use Rattle.std.proofs.lemmas.Bool.{false≢true}
use Rattle.kb_journal.specs.declared.entry_line.EntryLine.{EntryLine}
use Rattle.kb_journal.specs.EntryLines.{IsEntryLine}
use Rattle.kb_journal.specs.JournalSections.{entry_body}
use Rattle.kb_journal.proofs.LineLaws.{read_back}
use Rattle.kb_journal.proofs.sections.entry_of.Goals as goal

pub returns-then-not-is_word : goal.returns-then-not-is_word
returns-then-not-is_word c = λ l k.
    let same = read_back c.args.line.now c.in_ok-fields.fields c.line_of_fields-entry.result l c.in_ok-fields.ensures c.line_of_fields-entry.ensures k in
    false≢true (sym c.if-not-is_word.true ∙ c.is_word.ensures.1 (c.deref.ensures.value ∙ c.in_ok-text.ensures ∙ ap entry_body same ∙ sym k.spelling))

pub returns-then-not-is_within : goal.returns-then-not-is_within
returns-then-not-is_within c = λ l k.
    let same = read_back c.args.line.now c.in_ok-fields.fields c.line_of_fields-entry.result l c.in_ok-fields.ensures c.line_of_fields-entry.ensures k in
    false≢true (sym c.if-not-is_within.true ∙ c.is_within.ensures.1 (subst {A = EntryLine} IsEntryLine (sym same) k.form))

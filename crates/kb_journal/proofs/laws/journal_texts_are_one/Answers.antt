use Rattle.std.proofs.Common.{sym, ◌∙◌}
use Rattle.kb_journal.proofs.JournalForm.{one_spelled}
use Rattle.kb_journal.proofs.laws.journal_texts_are_one.Goals as goal

pub returns-clause-journal : goal.returns-clause-journal
returns-clause-journal c = one_spelled

pub returns-clause-text : goal.returns-clause-text
returns-clause-text c = λ bytes other j s t. s.spelling ∙ sym t.spelling

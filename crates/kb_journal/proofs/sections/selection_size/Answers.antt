use Rattle.std.proofs.Common.{sym, ◌∙◌, drop}
use Rattle.std.proofs.lemmas.Bool.{false≢true}
use Rattle.kb_text.proofs.Cuts.{one_line}
use Rattle.kb_journal.specs.JournalSections.{selection_word}
use Rattle.kb_journal.proofs.JournalForm.{selection_without}
use Rattle.kb_journal.proofs.sections.selection_size.Goals as goal

pub returns-then-not-is_word : goal.returns-then-not-is_word
returns-then-not-is_word c = λ back e.
    let l = c.in-Some.ensures.line in
    let r = one_line 10 c.in-Some.line.now selection_word (drop c.in-Some.size c.args.text.now) back l.without selection_without (sym l.parts ∙ e) in
    false≢true (sym c.if-not-is_word.true ∙ c.is_word.ensures.1 r.0)

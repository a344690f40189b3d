use Rattle.std.proofs.Common.{sym, ap, ◌∙◌, subst}
use Rattle.std.proofs.lemmas.Bool.{false≢true}
use Rattle.kb_journal.specs.declared.entry_line.EntryLine.{EntryLine}
use Rattle.kb_journal.specs.EntryLines.{IsEntryLine}
use Rattle.kb_journal.specs.JournalSections.{entry_body}
use Rattle.kb_journal.proofs.LineLaws.{one_entry}
use Rattle.kb_journal.proofs.replaying.is_same.Goals as goal

pub returns-then-not-is_within : goal.returns-then-not-is_within
returns-then-not-is_within c = (
  λ h. absurd (false≢true h),
  λ e. absurd (false≢true (sym c.if-not-is_within.true ∙ c.is_within.ensures.1 (subst {A = EntryLine} IsEntryLine (sym e) c.requires))),
)

pub returns : goal.returns
returns c =
    let made = c.args.made.now in
    let line = c.args.line.now in (
      λ h. one_entry made line (c.is_within.ensures.0 c.if-not-is_within.false) c.requires (sym c.in_ok-text.ensures ∙ sym c.deref.ensures.value ∙ c.is_word.ensures.0 h ∙ c.deref-2.ensures.value ∙ c.in_ok-wanted.ensures),
      λ e. c.is_word.ensures.1 (c.deref.ensures.value ∙ c.in_ok-text.ensures ∙ ap entry_body e ∙ sym c.in_ok-wanted.ensures ∙ sym c.deref-2.ensures.value),
    )

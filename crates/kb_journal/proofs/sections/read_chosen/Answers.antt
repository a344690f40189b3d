use Rattle.std.proofs.Common.{sym, ◌∙◌, ap, List, ℕ, ◌++◌, ◌∷◌}
use Rattle.kb_report.specs.Sections.{IsSectionFault}
use Rattle.kb_report.proofs.Reading.{handed_on}
use Rattle.kb_journal.specs.JournalSections.{Selected, selection_word}
use Rattle.kb_journal.proofs.SectionsRead.{fault_without, fault_behind}
use Rattle.kb_journal.proofs.sections.read_chosen.Goals as goal

pub returns-in_err-signature-clause-fault : goal.returns-in_err-signature-clause-fault
returns-in_err-signature-clause-fault c =
    handed_on (IsSectionFault Selected c.args.text.now c.args.first) c.from_residual.result c.in_err-signature.field-0.0 c.from_residual.ensures.0 c.from_residual.ensures.1
    (fault_without c.args.text.now c.args.first c.in_err-signature.field-0.0 c.in_default.ensures c.in_err-signature.ensures.fault)

pub returns-in_err-signature-2-clause-fault : goal.returns-in_err-signature-2-clause-fault
returns-in_err-signature-2-clause-fault c =
    handed_on (IsSectionFault Selected c.args.text.now c.args.first) c.from_residual-in_err-signature-2.result c.in_err-signature-2.field-0.0 c.from_residual-in_err-signature-2.ensures.0 c.from_residual-in_err-signature-2.ensures.1
    (fault_behind c.args.text.now c.split_at.result.1.now c.args.first c.in_err-signature-2.field-0.0 (c.in-Some.ensures.1 ∙ ap (λ (t : List ℕ). selection_word ++ 10 ∷ t) (sym c.split_at.ensures.back)) c.in_err-signature-2.ensures.fault)

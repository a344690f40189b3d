-- What was read of the text of a journal, section by section.
use Rattle.std.proofs.Common.{◌≡◌, refl, sym, subst, arith, ℕ, ◌+◌, ◌<◌, List, [], length, drop}
use Rattle.kb_text.specs.Fields.{IsTextFault}
use Rattle.kb_text.specs.declared.fault.TextFault.{TextFault}
use Rattle.kb_text.specs.declared.fault.TextFault.TheVariants.{BadText, Memory}
use Rattle.kb_report.specs.Sections.{Lines, Section, BeginsWith, IsSectionFault}
use Rattle.kb_report.proofs.Fronts.{IsSection, Then, Goes, IsReadTo, read_more, section_bad, behind_bad}
use Rattle.kb_report.proofs.SystemForm.{AtEnd}
use Rattle.kb_journal.specs.Journals.{IsJournalText}
use Rattle.kb_journal.proofs.JournalForm.{IsJournalLines, FromHead, in_order, from_order, lines_without, bad_journal_line}

abbrev pub Reads : List ℕ → List ℕ → ℕ → (Lines → Type 0) → Type 0
Reads = IsReadTo IsJournalLines

pub at_start : (text : List ℕ) → Reads text text 1 FromHead
at_start text = record { lines = []; number_is = omega arith; without = tt; parts = refl; left = in_order; right = from_order }

pub next : {X : Type 0} (S : Section X) (Next : X → Lines → Type 0) (text rest back : List ℕ) (number new : ℕ) (x : X) (count size : ℕ) → IsSection S → Reads text rest number (Then S Next) → BeginsWith S rest x count (drop size rest) → back ≡ drop size rest → new ≡ number + count → Reads text back new (Next x)
next S Next text rest back number new x count size i r b e n =
    subst (λ (t : List ℕ). Reads text t new (Next x)) (sym e) (subst (λ (k : ℕ). Reads text (drop size rest) k (Next x)) (sym n) (read_more IsJournalLines S Next text rest (drop size rest) number x count i r b))

-- a fault of a section is the text's
pub section_fault : {X : Type 0} (S : Section X) (Next : X → Lines → Type 0) (text rest : List ℕ) (first : ℕ) → IsSection S → ((x : X) → Goes (Next x)) → Reads text rest first (Then S Next) → (fault : TextFault) → IsSectionFault S rest first fault → IsTextFault IsJournalText text fault
section_fault S Next text rest first i goes r (BadText n) b = bad_journal_line text n (section_bad IsJournalLines S Next text rest first n lines_without i (λ x xs s. goes x) r b)
section_fault S Next text rest first i goes r Memory b = tt

pub behind_fault : (text rest : List ℕ) (number : ℕ) → Reads text rest number AtEnd → 0 < length rest → IsTextFault IsJournalText text (BadText number)
behind_fault text rest number r h = bad_journal_line text number (behind_bad IsJournalLines text rest number lines_without r h)

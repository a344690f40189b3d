-- What was read of the text of a system, section by section.
use Rattle.std.proofs.Common.{◌≡◌, refl, ap₂, sym, ◌∙◌, subst, arith, ℕ, ◌+◌, ◌<◌, List, [], ◌++◌, length, drop, Result, Ok, Err}
use Rattle.std.specs.Prelude.{IfErr}
use Rattle.std.specs.Result.{IsErr, IsErrAnd}
use Rattle.std.proofs.lemmas.Bool.{false≢true}
use Rattle.kb_text.specs.Fields.{IsTextFault}
use Rattle.kb_text.specs.declared.fault.TextFault.{TextFault}
use Rattle.kb_text.specs.declared.fault.TextFault.TheVariants.{BadText, Memory}
use Rattle.kb_report.specs.Answers.{IsSystemText}
use Rattle.kb_report.specs.Sections.{Lines, text_of, Section, BeginsWith, IsSectionFault}
use Rattle.kb_report.proofs.LinesOfTexts.{text_of-append}
use Rattle.kb_report.proofs.Fronts.{IsSection, Then, Goes, IsReadTo, read_more, section_bad, behind_bad}
use Rattle.kb_report.proofs.SystemForm.{IsSystemLines, FromHead, AtEnd, in_order, from_order, lines_without, bad_system_line}

abbrev pub Reads : List ℕ → List ℕ → ℕ → (Lines → Type 0) → Type 0
Reads = IsReadTo IsSystemLines

pub at_start : (text : List ℕ) → Reads text text 1 FromHead
at_start text = record { lines = []; number_is = omega arith; without = tt; parts = refl; left = in_order; right = from_order }

pub next : {X : Type 0} (S : Section X) (Next : X → Lines → Type 0) (text rest back : List ℕ) (number new : ℕ) (x : X) (count size : ℕ) → IsSection S → Reads text rest number (Then S Next) → BeginsWith S rest x count (drop size rest) → back ≡ drop size rest → new ≡ number + count → Reads text back new (Next x)
next S Next text rest back number new x count size i r b e n =
    subst (λ (t : List ℕ). Reads text t new (Next x)) (sym e) (subst (λ (k : ℕ). Reads text (drop size rest) k (Next x)) (sym n) (read_more IsSystemLines S Next text rest (drop size rest) number x count i r b))

-- a fault of a section is the text's
pub section_fault : {X : Type 0} (S : Section X) (Next : X → Lines → Type 0) (text rest : List ℕ) (first : ℕ) → IsSection S → ((x : X) → Goes (Next x)) → Reads text rest first (Then S Next) → (fault : TextFault) → IsSectionFault S rest first fault → IsTextFault IsSystemText text fault
section_fault S Next text rest first i goes r (BadText n) b = bad_system_line text n (section_bad IsSystemLines S Next text rest first n lines_without i (λ x xs s. goes x) r b)
section_fault S Next text rest first i goes r Memory b = tt

pub behind_fault : (text rest : List ℕ) (number : ℕ) → Reads text rest number AtEnd → 0 < length rest → IsTextFault IsSystemText text (BadText number)
behind_fault text rest number r h = bad_system_line text number (behind_bad IsSystemLines text rest number lines_without r h)

-- what a caller hands on
pub handed_on : {T : Type 0} (Claim : TextFault → Type 0) (r : Result T TextFault) (fault : TextFault) → IsErr r → IsErrAnd r (λ e. e ≡ fault) → Claim fault → IfErr r Claim
handed_on Claim (Ok x) fault h k p = absurd (false≢true h)
handed_on Claim (Err e) fault h k p = subst Claim (sym k) p

-- lines behind each other make up the text
pub joined_text : (text rest : List ℕ) (lines ps bs : Lines) → text ≡ text_of lines ++ rest → lines ≡ ps → rest ≡ text_of bs → text ≡ text_of (ps ++ bs)
joined_text text rest lines ps bs e l r = e ∙ ap₂ (λ (ls : Lines) (t : List ℕ). text_of ls ++ t) l r ∙ sym (text_of-append ps bs)

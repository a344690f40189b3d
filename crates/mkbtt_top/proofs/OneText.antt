-- Rounds write one text.
use Rattle.std.proofs.Common.{ℕ, ◌≡◌, ◌∙◌, refl, sym, ap, subst, List, Option, Some}
use Rattle.kb_term.specs.Signature.{Problem}
use Rattle.kb_text.specs.Problems.{Spells}
use Rattle.kb_text.proofs.OneProblem.{one_problem}
use Rattle.kb_label.specs.declared.verdict.Verdict.{Verdict}
use Rattle.kb_report.specs.Reports.{report_text}
use Rattle.mkb_model.specs.Plain.{Plain}
use Rattle.mkb_model.specs.Verdicts.{verdict}
use Rattle.mkb_model.specs.declared.settings.Settings.{Settings}
use Rattle.mkb_board.specs.Boards.{Seen}
use Rattle.mkb_report.specs.Reports.{IsReportOf}
use Rattle.mkb_report.proofs.Made.{one_report}
use Rattle.mkb_rounds.proofs.OneJournal.{rounds_once}
use Rattle.mkbtt_top.specs.Completing.{IsCompletion, IsCompletionOf, status_of}
use Rattle.mkbtt_top.specs.declared.completing.Told.TheVariants.{Report}
use Rattle.mkbtt_top.specs.declared.status.Status.{Status}
use Rattle.mkbtt_top.specs.declared.workers.Workers.TheVariants.{InRounds}

same_verdict : (v w : Verdict) → Some v ≡ Some w → v ≡ w
same_verdict v w e = cc e

completed_once : (P : Problem) (n : Settings) (k m : ℕ) (s t : Status) (a b : Option Seen) (x y : List ℕ) → IsCompletion Report P n (InRounds k) s a x → IsCompletion Report P n (InRounds m) t b y → (s ≡ t) × (x ≡ y)
completed_once P n k m s t a b x y f g =
    let same = (rounds_once P n f.end.journal g.end.journal f.end.plain g.end.plain f.finished.outcome.within (f.finished.rounds refl) (g.finished.rounds refl)).1 in
    let told : f.verdict ≡ g.verdict = same_verdict f.verdict g.verdict (sym f.finished.stands ∙ ap verdict same ∙ g.finished.stands) in
    let other : IsReportOf f.end.plain f.verdict g.reported.report = subst {A = Plain} (λ z. IsReportOf z f.verdict g.reported.report) (sym same) (subst {A = Verdict} (λ v. IsReportOf g.end.plain v g.reported.report) (sym told) g.reported.is_report) in
    let report = one_report f.end.plain f.verdict f.reported.report g.reported.report f.reported.is_report other in
    (f.status_is ∙ ap status_of told ∙ sym g.status_is, f.reported.text_is ∙ ap report_text report ∙ sym g.reported.text_is)

pub one_text : (bytes : List ℕ) (n : Settings) (k m : ℕ) (s t : Status) (a b : Option Seen) (x y : List ℕ) → IsCompletionOf Report bytes n (InRounds k) s a x → IsCompletionOf Report bytes n (InRounds m) t b y → (s ≡ t) × (x ≡ y)
one_text bytes n k m s t a b x y f g =
    let p : f.problem ≡ g.problem = one_problem bytes f.problem g.problem f.spelled g.spelled in
    completed_once f.problem n k m s t a b x y f.completion (subst {A = Problem} (λ z. IsCompletion Report z n (InRounds m) t b y) (sym p) g.completion)

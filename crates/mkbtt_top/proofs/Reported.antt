-- What is told of a board is told of its state: nothing of it depends on the tickets in flight.
use Rattle.std.proofs.Common.{ℕ, ◌≡◌, ◌∙◌, sym, refl, ap, subst, List, Some}
use Rattle.std.specs.Prelude.{Option}
use Rattle.kb_label.specs.declared.verdict.Verdict.{Verdict}
use Rattle.kb_label.specs.declared.verdict.Verdict.TheVariants.{Complete, AllFailed, Spent}
use Rattle.kb_label.specs.declared.verdict.Spent.TheVariants.{Commits, Over}
use Rattle.kb_label.specs.Names.{Name}
use Rattle.kb_term.specs.Signature.{IsWithinLimits}
use Rattle.kb_checker.specs.Answers.{Answer, IsGoodAnswer}
use Rattle.kb_checker.specs.Verdicts.{IsAccepted}
use Rattle.kb_report.specs.Answers.{IsSystem}
use Rattle.kb_report.specs.Reports.{report_text}
use Rattle.kb_report.specs.Summaries.{summary_text}
use Rattle.kb_report.specs.declared.report.Report.{Report}
use Rattle.kb_report.specs.declared.report.Report.TheVariants.{System}
use Rattle.mkb_model.specs.Journals.{After}
use Rattle.mkb_model.specs.Plain.{Plain}
use Rattle.mkb_model.specs.Verdicts.{verdict}
use Rattle.mkb_board.specs.Boards.{Seen, IsLegalBoard}
use Rattle.mkb_report.specs.Reports.{IsReached, IsAnswerOf, IsReportOf}
use Rattle.mkb_report.specs.Summaries.{summary_of}
use Rattle.mkbtt_top.specs.Completing.{IsGoodReport, IsReported}

-- the state is that of the board
abbrev pub IsStateOf : Seen → Plain → Type 0
IsStateOf s b = record b { flight = s.plain.flight } ≡ s.plain

pub reached : (s : Seen) (b : Plain) → IsStateOf s b → IsLegalBoard s → IsReached b
reached s b e legal = record {
  within = subst {A = Plain} (λ z. IsWithinLimits z.problem) (sym e) legal.within;
  flight = s.plain.flight;
  journal = s.journal;
  after = subst {A = Plain} (λ z. After z.problem z.settings s.journal z) (sym e) legal.after;
}

pub verdict_of_state : (s : Seen) (b : Plain) (o : Option Verdict) → IsStateOf s b → verdict s.plain ≡ o → verdict b ≡ o
verdict_of_state s b o e h = subst {A = Plain} (λ z. verdict z ≡ o) (sym e) h

report_of_board : (s : Seen) (b : Plain) (v : Verdict) (r : Report) → IsStateOf s b → IsReportOf b v r → IsReportOf s.plain v r
report_of_board s b (Complete p) r e h = subst {A = Plain} (λ z. IsReportOf z (Complete p) r) e (
  h.0,
  h.1,
  record {
    problem = h.2.problem;
    cert = h.2.cert;
    trace = h.2.trace;
    rules = record { sides = h.2.rules.sides; steps = h.2.rules.steps };
    constraints = record { sides = h.2.constraints.sides; steps = h.2.constraints.steps };
  },
)
report_of_board s b AllFailed r e h = subst {A = Plain} (λ z. IsReportOf z AllFailed r) e h
report_of_board s b (Spent Commits) r e h = subst {A = Plain} (λ z. IsReportOf z (Spent Commits) r) e h
report_of_board s b (Spent (Over reason)) r e h = subst {A = Plain} (λ z. IsReportOf z (Spent (Over reason)) r) e h

-- the answer of a complete process is good
good_report : (b : Plain) (v : Verdict) (r : Report) (text : List ℕ)
    → ((b : Plain) (p : Name) (a : Answer) → IsReached b → verdict b ≡ Some (Complete p) → IsAnswerOf b p a → IsGoodAnswer a)
    → ((b : Plain) (p : Name) (a : Answer) → IsReached b → verdict b ≡ Some (Complete p) → IsAnswerOf b p a → IsAccepted a)
    → IsReached b → verdict b ≡ Some v → ((a : Answer) → r ≡ System a → IsSystem a) → text ≡ report_text r → IsReportOf b v r → IsGoodReport text r
good_report b (Complete p) r text good accepted reached stands form spelled h = subst {A = Report} (IsGoodReport text) (sym h.1) (record {
  spelled = record { form = form h.0 h.1; spelling = spelled ∙ ap report_text h.1 };
  good = good b p h.0 reached stands h.2;
  accepted = accepted b p h.0 reached stands h.2;
})
good_report b AllFailed r text good accepted reached stands form spelled h = subst {A = Report} (IsGoodReport text) (sym h) tt
good_report b (Spent Commits) r text good accepted reached stands form spelled h = subst {A = Report} (IsGoodReport text) (sym h) tt
good_report b (Spent (Over reason)) r text good accepted reached stands form spelled h = subst {A = Report} (IsGoodReport text) (sym h) tt

pub reported : (s : Seen) (b : Plain) (v : Verdict) (r : Report) (text : List ℕ)
    → ((b : Plain) (p : Name) (a : Answer) → IsReached b → verdict b ≡ Some (Complete p) → IsAnswerOf b p a → IsGoodAnswer a)
    → ((b : Plain) (p : Name) (a : Answer) → IsReached b → verdict b ≡ Some (Complete p) → IsAnswerOf b p a → IsAccepted a)
    → IsStateOf s b → IsLegalBoard s → verdict s.plain ≡ Some v → ((a : Answer) → r ≡ System a → IsSystem a) → text ≡ report_text r → IsReportOf b v r → IsReported s v text
reported s b v r text good accepted e legal stands form spelled h = record {
  report = r;
  is_report = report_of_board s b v r e h;
  text_is = spelled;
  good = good_report b v r text good accepted (reached s b e legal) (verdict_of_state s b (Some v) e stands) form spelled h;
}

pub summary_of_board : (s : Seen) (b : Plain) (drops : ℕ) → IsStateOf s b → summary_of b drops ≡ summary_of s.plain drops
summary_of_board s b drops e = subst {A = Plain} (λ z. summary_of b drops ≡ summary_of z drops) e refl

-- What a completion of a problem comes to.
use Rattle.std.specs.Prelude.{ℕ, ◌≡◌, ◌≢◌, ◌⊎◌, IsTrue, IfSome, Bool, List, [], Option, Some, None, ⊤}
use Rattle.kb_io.specs.Bytes.{HasMoreThan, TakesAll}
use Rattle.kb_text.specs.declared.kind.Kind.{Kind}
use Rattle.kb_text.specs.declared.kind.Kind.TheVariants.{Limit}
use Rattle.kb_text.specs.declared.kind.Bound.TheVariants.{Input}
use Rattle.kb_term.specs.Signature.{Problem}
use Rattle.kb_text.specs.Problems.{Spells}
use Rattle.kb_text.specs.Refusals.{IsRefused}
use Rattle.kb_label.specs.declared.verdict.Verdict.{Verdict}
use Rattle.kb_label.specs.declared.verdict.Verdict.TheVariants as verdicts
use Rattle.kb_checker.specs.Answers.{Answer, IsGoodAnswer}
use Rattle.kb_checker.specs.Verdicts.{IsAccepted}
use Rattle.kb_report.specs.Answers.{AnswerSpelled}
use Rattle.kb_report.specs.Reports.{report_text}
use Rattle.kb_journal.specs.Journals.{journal_of_board, journal_text}
use Rattle.mkbtt_top.specs.declared.completing.Told.{Told}
use Rattle.mkbtt_top.specs.declared.completing.Told.TheVariants.{Report, Journal}
use Rattle.kb_report.specs.declared.report.Report.{Report as Said}
use Rattle.kb_report.specs.declared.report.Report.TheVariants.{System}
use Rattle.mkb_model.specs.Headline.{IsOutcome, HasVerdict, TakesAreBy}
use Rattle.mkb_model.specs.Verdicts.{verdict as verdict_on}
use Rattle.mkb_model.specs.Journals.{Alone}
use Rattle.mkb_board.specs.Boards.{Seen, has_halt}
use Rattle.mkb_rounds.specs.Rounds.{IsRounds}
use Rattle.mkb_report.specs.Reports.{IsReportOf}
use Rattle.mkbtt_top.specs.declared.reply.Stop.{Stop}
use Rattle.mkbtt_top.specs.declared.reply.Stop.TheVariants as stops
use Rattle.mkbtt_top.specs.Replies.{Fails}
use Rattle.mkbtt_top.specs.Workers.{are_in_rounds, takers_of}
use Rattle.mkbtt_top.specs.declared.status.Status.{Status}
use Rattle.mkbtt_top.specs.declared.status.Status.TheVariants.{Done, AllFailed, Spent}
use Rattle.mkbtt_top.specs.declared.workers.Workers.{Workers}
use Rattle.mkbtt_top.specs.declared.workers.Workers.TheVariants.{Free, InRounds}
use Rattle.mkb_model.specs.declared.settings.Settings.{Settings}
use Rattle.kb_term.specs.declared.limits.TheConstants.{MAX_PROBLEM_BYTES}

-- how a run ends that writes the report of the verdict
abbrev pub status_of : Verdict → Status
status_of (verdicts.Complete p) = Done
status_of verdicts.AllFailed = AllFailed
status_of (verdicts.Spent s) = Spent s

-- the workers worked for the problem on this board until this verdict stood: its journal is legal for the settings and the workers, and the views of each living process are a completion run of that process alone; where one worker worked, each ticket was ended at once; where they worked by rounds, it is the journal of rounds
pub record IsFinished (problem : Problem) (settings : Settings) (workers : Workers) (board : Seen) (verdict : Verdict) : Type 0 where
  pub outcome : IsOutcome problem settings (takers_of workers) board.journal board.plain
  pub alone : workers ≡ Free 1 → Alone problem settings board.journal board.plain
  pub rounds : IsTrue (are_in_rounds workers) → IsRounds problem settings board.journal board.plain
  pub stands : HasVerdict board.plain verdict

-- the text spells the answer, which is good, and which the checker accepts
pub record IsGoodText (text : List ℕ) (answer : Answer) : Type 0 where
  pub spelled : AnswerSpelled text answer
  pub good : IsGoodAnswer answer
  pub accepted : IsAccepted answer

-- where the report is an answer, the text is a good one's
abbrev pub IsGoodReport : List ℕ → Said → Type 0
IsGoodReport text (System answer) = IsGoodText text answer
IsGoodReport text report = ⊤

-- the text is that of the report of the verdict: of a complete process its answer, which is good
pub record IsReported (board : Seen) (verdict : Verdict) (text : List ℕ) : Type 0 where
  pub report : Said
  pub is_report : IsReportOf board.plain verdict report
  pub text_is : text ≡ report_text report
  pub good : IsGoodReport text report

-- the text is that of the journal of the board
abbrev pub IsJournalOf : Seen → Verdict → List ℕ → Type 0
IsJournalOf board verdict text = text ≡ journal_text (journal_of_board board)

-- what is told of the board where a verdict stands: the report, or the journal
abbrev pub IsTold : Told → Seen → Verdict → List ℕ → Type 0
IsTold Report board verdict text = IsReported board verdict text
IsTold Journal board verdict text = IsJournalOf board verdict text

-- the board is one on which the workers completed the problem, the status tells its verdict, and this is told of it
pub record IsCompletion (told : Told) (problem : Problem) (settings : Settings) (workers : Workers) (status : Status) (board : Option Seen) (text : List ℕ) : Type 0 where
  pub end : Seen
  pub verdict : Verdict
  pub board_is : board ≡ Some end
  pub status_is : status ≡ status_of verdict
  pub finished : IsFinished problem settings workers end verdict
  pub reported : IsTold told end verdict text

-- the bytes spell a problem, of which this is a completion
pub record IsCompletionOf (told : Told) (bytes : List ℕ) (settings : Settings) (workers : Workers) (status : Status) (board : Option Seen) (text : List ℕ) : Type 0 where
  pub problem : Problem
  pub spelled : Spells bytes problem
  pub completion : IsCompletion told problem settings workers status board text

-- the completions by so many and by so many workers in rounds have the same status and the same report
abbrev pub RoundsAgree : List ℕ → Settings → ℕ → ℕ → Type 0
RoundsAgree bytes settings few many =
    (one other : Status) (board end : Option Seen) (text written : List ℕ) → IsCompletionOf Report bytes settings (InRounds few) one board text → IsCompletionOf Report bytes settings (InRounds many) other end written
    → (one ≡ other) × (text ≡ written)

-- the source was read to its end, and this is a completion of the problem that its bytes spell
pub record Completes (told : Told) (settings : Settings) (workers : Workers) (status : Status) (board : Option Seen) (left_old left_new : Option (List ℕ)) (text : List ℕ) : Type 0 where
  pub bytes : List ℕ
  pub read : TakesAll left_old bytes left_new
  pub completion : IsCompletionOf told bytes settings workers status board text

-- ---- what is left where there was no memory

-- no verdict stands on the board: the workers' work on the problem was broken off by a halt; its journal is legal for the settings, the views of each living process are a completion run of that process alone, where several worked freely each take is by one of them, and else nothing is in flight
pub record IsBroken (problem : Problem) (settings : Settings) (workers : Workers) (board : Seen) : Type 0 where
  pub outcome : IsOutcome problem settings 16 board.journal board.plain
  pub takes : (n : ℕ) → workers ≡ Free n → n ≢ 1 → TakesAreBy n board.journal
  pub grounded : ((n : ℕ) → workers ≡ Free n → n ≡ 1) → board.plain.flight ≡ []
  pub no_verdict : verdict_on board.plain ≡ None
  pub halted : IsTrue (has_halt board.journal)

-- the board on which the workers' work on the problem was broken off, or on which they completed it and there was no memory for the text
abbrev pub IsLeft : Problem → Settings → Workers → Seen → Type 0
IsLeft problem settings workers board = IsBroken problem settings workers board ⊎ ((v : Verdict) × IsFinished problem settings workers board v)

-- the bytes spell a problem, and this board is left of its completion
pub record IsLeftFrom (settings : Settings) (workers : Workers) (bytes : List ℕ) (board : Seen) : Type 0 where
  pub problem : Problem
  pub spelled : Spells bytes problem
  pub left : IsLeft problem settings workers board

-- the source was read to its end, and this board is left of the completion of the problem that its bytes spell
pub record IsLeftOf (settings : Settings) (workers : Workers) (left_old left_new : Option (List ℕ)) (board : Seen) : Type 0 where
  pub bytes : List ℕ
  pub read : TakesAll left_old bytes left_new
  pub left : IsLeftFrom settings workers bytes board

-- ---- why no completion is told

-- the bytes are refused so, or there was no memory, and a board that was made is left
abbrev pub IsRefusal : Settings → Workers → List ℕ → Stop → Type 0
IsRefusal settings workers bytes (stops.Refused kind at) = IsRefused bytes kind at
IsRefusal settings workers bytes (stops.Memory board) = IfSome board (IsLeftFrom settings workers bytes)
IsRefusal settings workers bytes stop = ⊥

-- the refusal of what was read: the bytes up to the end are refused so, or there are too many of them
pub data IsProblemRefused (left_old left_new : Option (List ℕ)) : Kind → ℕ → Type 0 where
  by_text : {kind : Kind} {at : ℕ} (bytes : List ℕ) → TakesAll left_old bytes left_new → IsRefused bytes kind at → IsProblemRefused left_old left_new kind at
  too_long : HasMoreThan MAX_PROBLEM_BYTES left_old → IsProblemRefused left_old left_new (Limit Input) MAX_PROBLEM_BYTES

-- why no completion of what is read was told
abbrev pub IsUnfinishedBy : Settings → Workers → Option (List ℕ) → Option (List ℕ) → Bool → ℕ → ℕ → Stop → Type 0
IsUnfinishedBy settings workers left_old left_new quiet before after (stops.Refused kind at) = IsProblemRefused left_old left_new kind at
IsUnfinishedBy settings workers left_old left_new quiet before after (stops.BadText n) = ⊥
IsUnfinishedBy settings workers left_old left_new quiet before after stops.ReadFault = Fails quiet before after
IsUnfinishedBy settings workers left_old left_new quiet before after (stops.Memory board) = IfSome board (IsLeftOf settings workers left_old left_new)

-- What a run leaves, clause by clause.
use Rattle.std.proofs.Common.{ℕ, ◌≡◌, ◌∙◌, ◌⊎◌, ◌<◌, Bool, inl, inr, ⊎_elim, refl, sym, subst, arith, length, List, Some}
use Rattle.std.specs.Prelude.{Option, None, IsTrue, IfSome}
use Rattle.kb_io.specs.Bytes.{HasMoreThan, Rose, TakesAll}
use Rattle.kb_text.specs.declared.kind.Kind.{Kind}
use Rattle.kb_label.specs.declared.verdict.Verdict.{Verdict}
use Rattle.kb_label.specs.declared.verdict.Verdict.TheVariants as verdicts
use Rattle.kb_checker.specs.declared.verdict.Checked.{Checked}
use Rattle.kb_checker.specs.declared.verdict.Checked.TheVariants.{Accepted, Rejected}
use Rattle.kb_text.specs.Problems.{Spells}
use Rattle.kb_syntax.proofs.Spelled.{refused_not_spelled}
use Rattle.mkb_board.specs.Boards.{Seen}
use Rattle.mkbtt_top.specs.Answering.{HasBadLine, IsAnswerLong, IsNoTextBy, IsUnreadBy}
use Rattle.mkbtt_top.specs.Checking.{status_of as status_of_checked}
use Rattle.mkbtt_top.specs.Completing.{by_text, too_long, status_of, IsLeftFrom, IsLeftOf, IsProblemRefused, IsRefusal, IsUnfinishedBy}
use Rattle.mkbtt_top.specs.Replaying.{made, bad, IsReplay}
use Rattle.kb_journal.specs.Journals.{Journal}
use Rattle.mkbtt_top.specs.Replies.{board_of_stop, status_of_stop, Fails}
use Rattle.mkbtt_top.specs.Runs.{Answers, AnswersInPart, Ends, AskToRead, HasBadAnswer, HasNoBoard, HoldsFew, HoldsText, IsQuietFor, IsUnrefused, Leaves, LeavesBoard, SpellOne, whole, in_part, stopped, IsAnswered, Makes, ReadsIfAsked, Refuses, IsRefusedBy, StopsBy, WritesNothing}
use Rattle.mkbtt_top.specs.Tasks.{AskFor, form_of, is_reading, reads_lines, TakesFew}
use Rattle.mkbtt_top.specs.declared.reply.Stop.{Stop}
use Rattle.mkbtt_top.specs.declared.reply.Stop.TheVariants as stops
use Rattle.mkbtt_top.specs.declared.status.Status.{Status}
use Rattle.mkbtt_top.specs.declared.status.Status.TheVariants.{Done, Refused, BadText, ReadFault, WriteFault, Memory, Words}
use Rattle.mkbtt_top.specs.declared.status.Status.TheVariants as status
use Rattle.mkbtt_top.specs.declared.workers.Workers.{Workers}
use Rattle.mkbtt_top.specs.declared.task.Task.{Task}
use Rattle.mkbtt_top.specs.declared.task.Task.TheVariants as tasks
use Rattle.mkbtt_top.specs.declared.task.Task.TheVariants.{Complete, Replay, Check, Convert, Reduce, Decide, Simplify, Summary, Generate}
use Rattle.mkb_model.specs.declared.settings.Settings.{Settings}
use Rattle.kb_reduce.specs.declared.reduction.Reduction.{Reduction}
use Rattle.kb_reduce.specs.declared.reduction.Reduction.TheVariants as told
use Rattle.mkbtt_top.specs.Reducing.{Tells}
use Rattle.mkbtt_top.proofs.Tasks.{one_task}

answered_verdict : (v : Verdict) → IsAnswered (status_of v)
answered_verdict (verdicts.Complete p) = tt
answered_verdict verdicts.AllFailed = tt
answered_verdict (verdicts.Spent s) = tt

answered_check : (c : Checked) → IsAnswered (status_of_checked c)
answered_check Accepted = tt
answered_check (Rejected reason n) = tt

answered_told : (r : Reduction) (end : Status) (text : List ℕ) → Tells r end text → IsAnswered end
answered_told (told.Reduced b) end text h = subst {A = Status} IsAnswered (sym h.0) tt
answered_told (told.Rejected reason n) end text h = subst {A = Status} IsAnswered (sym h.0) tt
answered_told (told.Unreduced why n) end text h = subst {A = Status} IsAnswered (sym h.0) tt

answered_replay : (j : Journal) (end : Status) (board : Option Seen) (text : List ℕ) → IsReplay j end board text → IsAnswered end
answered_replay j end board text (made b h e) = tt
answered_replay j end board text (bad n h e) = tt

-- what a task makes has a status with which it is written
answered_made : (task : Task) (end : Status) (board : Option Seen) (old new : Option (List ℕ)) (text : List ℕ) → Makes task end board old new text → IsAnswered end
answered_made (Complete settings workers) end board old new text h = subst {A = Status} IsAnswered (sym h.completion.completion.status_is) (answered_verdict h.completion.completion.verdict)
answered_made (tasks.Journal settings workers) end board old new text h = subst {A = Status} IsAnswered (sym h.completion.completion.status_is) (answered_verdict h.completion.completion.verdict)
answered_made Replay end board old new text h = answered_replay h.journal end board text h.replay
answered_made Check end board old new text h = subst {A = Status} IsAnswered (sym h.status_is) (answered_check h.checked)
answered_made (Convert format) end board old new text h = subst {A = Status} IsAnswered (sym h.status_is) tt
answered_made Reduce end board old new text h = answered_told h.told.reduction end text h.told.told
answered_made Decide end board old new text h = ⊎_elim (λ r. subst {A = Status} IsAnswered (sym r.status_is) tt) (λ s. subst {A = Status} IsAnswered (sym s.status_is) tt) h.said
answered_made Simplify end board old new text h = ⊎_elim (λ r. subst {A = Status} IsAnswered (sym r.status_is) tt) (λ s. subst {A = Status} IsAnswered (sym s.status_is) tt) h.said
answered_made (Summary settings number) end board old new text h = subst {A = Status} IsAnswered (sym h.0.status_is) tt
answered_made (Generate number) end board old new text h = subst {A = Status} IsAnswered (sym h.0.status_is) tt

board_of_verdict : (v : Verdict) → HasNoBoard (status_of v) → ⊥
board_of_verdict (verdicts.Complete p) h = h
board_of_verdict verdicts.AllFailed h = h
board_of_verdict (verdicts.Spent s) h = h

board_of_replay : (j : Journal) (end : Status) (board : Option Seen) (text : List ℕ) → IsReplay j end board text → HasNoBoard end → board ≡ None
board_of_replay j end board text (made b h e) n = absurd n
board_of_replay j end board text (bad m h e) n = refl

-- what a task makes that ends without a board has none
board_made : (task : Task) (end : Status) (board : Option Seen) (old new : Option (List ℕ)) (text : List ℕ) → Makes task end board old new text → HasNoBoard end → board ≡ None
board_made (Complete settings workers) end board old new text h n = absurd (board_of_verdict h.completion.completion.verdict (subst {A = Status} HasNoBoard h.completion.completion.status_is n))
board_made (tasks.Journal settings workers) end board old new text h n = absurd (board_of_verdict h.completion.completion.verdict (subst {A = Status} HasNoBoard h.completion.completion.status_is n))
board_made Replay end board old new text h n = board_of_replay h.journal end board text h.replay n
board_made Check end board old new text h n = h.board_is
board_made (Convert format) end board old new text h n = h.board_is
board_made Reduce end board old new text h n = h.board_is
board_made Decide end board old new text h n = h.board_is
board_made Simplify end board old new text h n = h.board_is
board_made (Summary settings number) end board old new text h n = absurd (subst {A = Status} HasNoBoard h.0.status_is n)
board_made (Generate number) end board old new text h n = h.0.board_is

board_of_stopped : (stop : Stop) → HasNoBoard (status_of_stop stop) → board_of_stop stop ≡ None
board_of_stopped (stops.Refused kind at) h = refl
board_of_stopped (stops.BadText n) h = refl
board_of_stopped stops.ReadFault h = refl
board_of_stopped (stops.Memory board) h = absurd h

unanswered_stop : (stop : Stop) → IsAnswered (status_of_stop stop) → ⊥
unanswered_stop (stops.Refused kind at) h = h
unanswered_stop (stops.BadText n) h = h
unanswered_stop stops.ReadFault h = h
unanswered_stop (stops.Memory board) h = h

writes_all : (end : Status) (old new : Option (List ℕ)) → IsAnswered end → WritesNothing end old new
writes_all Done old new h = tt
writes_all status.AllFailed old new h = tt
writes_all (status.Rejected reason n) old new h = tt
writes_all (status.BadEntry n) old new h = tt
writes_all (status.Unreduced why n) old new h = tt
writes_all (status.Spent spent) old new h = tt
writes_all (Refused kind at) old new h = absurd h
writes_all (BadText n) old new h = absurd h
writes_all ReadFault old new h = absurd h
writes_all WriteFault old new h = absurd h
writes_all Memory old new h = absurd h
writes_all Words old new h = absurd h

writes_none : (end : Status) (old new : Option (List ℕ)) → new ≡ old → WritesNothing end old new
writes_none Done old new h = tt
writes_none status.AllFailed old new h = tt
writes_none (status.Rejected reason n) old new h = tt
writes_none (status.BadEntry n) old new h = tt
writes_none (status.Unreduced why n) old new h = tt
writes_none (status.Spent spent) old new h = tt
writes_none (Refused kind at) old new h = h
writes_none (BadText n) old new h = h
writes_none ReadFault old new h = h
writes_none WriteFault old new h = tt
writes_none Memory old new h = h
writes_none Words old new h = h

-- ---- why a task makes nothing

stop_of_write_fault : (stop : Stop) → status_of_stop stop ≡ WriteFault → ⊥
stop_of_write_fault (stops.Refused kind at) e = cc
stop_of_write_fault (stops.BadText n) e = cc
stop_of_write_fault stops.ReadFault e = cc
stop_of_write_fault (stops.Memory board) e = cc

stop_of_words : (stop : Stop) → status_of_stop stop ≡ Words → ⊥
stop_of_words (stops.Refused kind at) e = cc
stop_of_words (stops.BadText n) e = cc
stop_of_words stops.ReadFault e = cc
stop_of_words (stops.Memory board) e = cc

stop_of_read_fault : (task : Task) (old new : Option (List ℕ)) (quiet : Bool) (before after : ℕ) (stop : Stop) → StopsBy task old new quiet before after stop → status_of_stop stop ≡ ReadFault → IsTrue (is_reading task) × Fails quiet before after
stop_of_read_fault task old new quiet before after (stops.Refused kind at) h e = absurd (cc)
stop_of_read_fault task old new quiet before after (stops.BadText n) h e = absurd (cc)
stop_of_read_fault task old new quiet before after stops.ReadFault h e = h
stop_of_read_fault task old new quiet before after (stops.Memory board) h e = absurd (cc)

stop_of_refused : (task : Task) (old new : Option (List ℕ)) (quiet : Bool) (before after : ℕ) (stop : Stop) (kind : Kind) (at : ℕ) → StopsBy task old new quiet before after stop → status_of_stop stop ≡ Refused kind at → IsRefusedBy task old new kind at
stop_of_refused task old new quiet before after (stops.Refused kind at) k n h e =
    let same : kind ≡ k = cc in
    let place : at ≡ n = cc in
    subst {A = ℕ} (λ m. IsRefusedBy task old new k m) place (subst {A = Kind} (λ l. IsRefusedBy task old new l at) same h)
stop_of_refused task old new quiet before after (stops.BadText n) k m h e = absurd (cc)
stop_of_refused task old new quiet before after stops.ReadFault k m h e = absurd (cc)
stop_of_refused task old new quiet before after (stops.Memory board) k m h e = absurd (cc)

stop_of_bad_text : (task : Task) (old new : Option (List ℕ)) (quiet : Bool) (before after : ℕ) (stop : Stop) (n : ℕ) → StopsBy task old new quiet before after stop → status_of_stop stop ≡ BadText n → IsTrue (reads_lines task) × HasBadLine (form_of task) old new n
stop_of_bad_text task old new quiet before after (stops.Refused kind at) m h e = absurd (cc)
stop_of_bad_text task old new quiet before after (stops.BadText n) m h e =
    let same : n ≡ m = cc in
    subst {A = ℕ} (λ k. IsTrue (reads_lines task) × HasBadLine (form_of task) old new k) same h
stop_of_bad_text task old new quiet before after stops.ReadFault m h e = absurd (cc)
stop_of_bad_text task old new quiet before after (stops.Memory board) m h e = absurd (cc)

-- ---- an answer that isn't read

long_answer : (task : Task) (old new : Option (List ℕ)) (kind : Kind) (at : ℕ) → IsTrue (reads_lines task) → IsAnswerLong old kind at → IsRefusedBy task old new kind at
long_answer (Complete settings workers) old new kind at r h = absurd (cc)
long_answer (tasks.Journal settings workers) old new kind at r h = absurd (cc)
long_answer Replay old new kind at r h = h
long_answer Check old new kind at r h = h
long_answer (Convert format) old new kind at r h = h
long_answer Reduce old new kind at r h = h
long_answer Decide old new kind at r h = h
long_answer Simplify old new kind at r h = h
long_answer (Summary settings number) old new kind at r h = absurd (cc)
long_answer (Generate number) old new kind at r h = absurd (cc)

answer_is_read : (task : Task) → IsTrue (reads_lines task) → IsTrue (is_reading task)
answer_is_read (Complete settings workers) r = absurd (cc)
answer_is_read (tasks.Journal settings workers) r = absurd (cc)
answer_is_read Replay r = refl
answer_is_read Check r = refl
answer_is_read (Convert format) r = refl
answer_is_read Reduce r = refl
answer_is_read Decide r = refl
answer_is_read Simplify r = refl
answer_is_read (Summary settings number) r = absurd (cc)
answer_is_read (Generate number) r = absurd (cc)

-- why the text of the task's form isn't read is why the task makes nothing
pub stops_by : (task : Task) (old new : Option (List ℕ)) (quiet : Bool) (before after : ℕ) (stop : Stop) → IsTrue (reads_lines task) → IsNoTextBy (form_of task) old new quiet before after stop → StopsBy task old new quiet before after stop
stops_by task old new quiet before after (stops.Refused kind at) r h = long_answer task old new kind at r h
stops_by task old new quiet before after (stops.BadText n) r h = (r, h)
stops_by task old new quiet before after stops.ReadFault r h = (answer_is_read task r, h)
stops_by task old new quiet before after (stops.Memory board) r h = subst {A = Option Seen} (λ b. IfSome b (Leaves task old new)) (sym h) tt

-- where no bytes are read, no text is
pub no_text : (IsOfForm : List ℕ → Type 0) (old new : Option (List ℕ)) (quiet : Bool) (before after : ℕ) (stop : Stop) → IsUnreadBy old quiet before after stop → IsNoTextBy IsOfForm old new quiet before after stop
no_text IsOfForm old new quiet before after (stops.Refused kind at) h = h
no_text IsOfForm old new quiet before after (stops.BadText n) h = absurd h
no_text IsOfForm old new quiet before after stops.ReadFault h = h
no_text IsOfForm old new quiet before after (stops.Memory board) h = h

-- what the bytes of a problem are refused for, as the refusal of what was read
pub stop_of_refusal : (settings : Settings) (workers : Workers) (old new : Option (List ℕ)) (quiet : Bool) (before after : ℕ) (bytes : List ℕ) (stop : Stop) → TakesAll old bytes new → IsRefusal settings workers bytes stop → IsUnfinishedBy settings workers old new quiet before after stop
stop_of_refusal settings workers old new quiet before after bytes (stops.Refused kind at) t h = by_text bytes t h
stop_of_refusal settings workers old new quiet before after bytes (stops.BadText n) t h = absurd h
stop_of_refusal settings workers old new quiet before after bytes stops.ReadFault t h = absurd h
stop_of_refusal settings workers old new quiet before after bytes (stops.Memory board) t h = left_of board h
  where
    left_of : (b : Option Seen) → IfSome b (IsLeftFrom settings workers bytes) → IfSome b (IsLeftOf settings workers old new)
    left_of None l = tt
    left_of (Some board) l = record { bytes = bytes; read = t; left = l }

-- why no completion is told is why the task makes nothing
pub unfinished : (settings : Settings) (workers : Workers) (old new : Option (List ℕ)) (quiet : Bool) (before after : ℕ) (stop : Stop) → IsUnfinishedBy settings workers old new quiet before after stop → StopsBy (Complete settings workers) old new quiet before after stop
unfinished settings workers old new quiet before after (stops.Refused kind at) h = h
unfinished settings workers old new quiet before after (stops.BadText n) h = absurd h
unfinished settings workers old new quiet before after stops.ReadFault h = (refl, h)
unfinished settings workers old new quiet before after (stops.Memory board) h = h

pub unwritten : (settings : Settings) (workers : Workers) (old new : Option (List ℕ)) (quiet : Bool) (before after : ℕ) (stop : Stop) → IsUnfinishedBy settings workers old new quiet before after stop → StopsBy (tasks.Journal settings workers) old new quiet before after stop
unwritten settings workers old new quiet before after (stops.Refused kind at) h = h
unwritten settings workers old new quiet before after (stops.BadText n) h = absurd h
unwritten settings workers old new quiet before after stops.ReadFault h = (refl, h)
unwritten settings workers old new quiet before after (stops.Memory board) h = h

-- ---- what is read in full

few_bytes : (P : List ℕ → Type 0) (n : ℕ) (old : Option (List ℕ)) → HoldsFew P n old → HasMoreThan n old → ⊥
few_bytes P n old h more =
    let many : n < length h.bytes = subst {A = Option (List ℕ)} (HasMoreThan n) h.told more in
    let few = h.few in
    omega arith

-- what was read isn't refused where it spells a problem
problem_unrefused : (old new : Option (List ℕ)) (kind : Kind) (at : ℕ) → HoldsFew SpellOne 1048576 old → IsProblemRefused old new kind at → ⊥
problem_unrefused old new kind at h (by_text bytes t r) =
    let same = (subst {A = Option (List ℕ)} (λ o. TakesAll o bytes new) h.told t).0 in
    refused_not_spelled bytes kind at h.of_form.0 r (subst {A = List ℕ} (λ b. Spells b h.of_form.0) same h.of_form.1)
problem_unrefused old new kind at h (too_long m) = few_bytes SpellOne 1048576 old h m

long_unrefused : (P : List ℕ → Type 0) (old : Option (List ℕ)) (kind : Kind) (at : ℕ) → HoldsFew P 67108864 old → IsAnswerLong old kind at → ⊥
long_unrefused P old kind at h l = few_bytes P 67108864 old h l.2

-- the refusal of what a task reads
not_refused : (task : Task) (old new : Option (List ℕ)) (kind : Kind) (at : ℕ) → HoldsText task old → IsRefusedBy task old new kind at → ⊥
not_refused (Complete settings workers) old new kind at h r = problem_unrefused old new kind at h r
not_refused (tasks.Journal settings workers) old new kind at h r = problem_unrefused old new kind at h r
not_refused Replay old new kind at h r = long_unrefused (form_of Replay) old kind at h r
not_refused Check old new kind at h r = long_unrefused (form_of Check) old kind at h r
not_refused (Convert format) old new kind at h r = long_unrefused (form_of (Convert format)) old kind at h r
not_refused Reduce old new kind at h r = long_unrefused (form_of Reduce) old kind at h r
not_refused Decide old new kind at h r = long_unrefused (form_of Decide) old kind at h r
not_refused Simplify old new kind at h r = long_unrefused (form_of Simplify) old kind at h r
not_refused (Summary settings number) old new kind at h r = r
not_refused (Generate number) old new kind at h r = r

line_not_bad : (P : List ℕ → Type 0) (limit : ℕ) (old new : Option (List ℕ)) (n : ℕ) → HoldsFew P limit old → HasBadLine P old new n → ⊥
line_not_bad P limit old new n h b =
    let same = (subst {A = Option (List ℕ)} (λ o. TakesAll o b.bytes new) h.told b.read).0 in
    b.bad.not_whole (subst {A = List ℕ} P same h.of_form)

-- a bad line of what a task reads
not_bad : (task : Task) (old new : Option (List ℕ)) (n : ℕ) → HoldsText task old → IsTrue (reads_lines task) → HasBadLine (form_of task) old new n → ⊥
not_bad (Complete settings workers) old new n h r b = cc
not_bad (tasks.Journal settings workers) old new n h r b = cc
not_bad Replay old new n h r b = line_not_bad (form_of Replay) 67108864 old new n h b
not_bad Check old new n h r b = line_not_bad (form_of Check) 67108864 old new n h b
not_bad (Convert format) old new n h r b = line_not_bad (form_of (Convert format)) 67108864 old new n h b
not_bad Reduce old new n h r b = line_not_bad (form_of Reduce) 67108864 old new n h b
not_bad Decide old new n h r b = line_not_bad (form_of Decide) 67108864 old new n h b
not_bad Simplify old new n h r b = line_not_bad (form_of Simplify) 67108864 old new n h b
not_bad (Summary settings number) old new n h r b = cc
not_bad (Generate number) old new n h r b = cc

unrefused_stop : (task : Task) (old new : Option (List ℕ)) (quiet : Bool) (before after : ℕ) (stop : Stop) → HoldsText task old → StopsBy task old new quiet before after stop → IsUnrefused (status_of_stop stop)
unrefused_stop task old new quiet before after (stops.Refused kind at) h c = not_refused task old new kind at h c
unrefused_stop task old new quiet before after (stops.BadText n) h c = not_bad task old new n h c.0 c.1
unrefused_stop task old new quiet before after stops.ReadFault h c = tt
unrefused_stop task old new quiet before after (stops.Memory board) h c = tt

unrefused_answer : (end : Status) → IsAnswered end → IsUnrefused end
unrefused_answer Done h = tt
unrefused_answer status.AllFailed h = tt
unrefused_answer (status.Rejected reason n) h = tt
unrefused_answer (status.BadEntry n) h = tt
unrefused_answer (status.Unreduced why n) h = tt
unrefused_answer (status.Spent spent) h = tt
unrefused_answer (Refused kind at) h = h
unrefused_answer (BadText n) h = h
unrefused_answer ReadFault h = tt
unrefused_answer WriteFault h = tt
unrefused_answer Memory h = tt
unrefused_answer Words h = tt

-- where what the task reads is there and the source is quiet, it stops for want of memory alone
stop_is_memory : (task : Task) (old new : Option (List ℕ)) (quiet : Bool) (before after : ℕ) (stop : Stop) → HoldsText task old → IsQuietFor task quiet → StopsBy task old new quiet before after stop → status_of_stop stop ≡ Memory
stop_is_memory task old new quiet before after (stops.Refused kind at) h q c = absurd (not_refused task old new kind at h c)
stop_is_memory task old new quiet before after (stops.BadText n) h q c = absurd (not_bad task old new n h c.0 c.1)
stop_is_memory task old new quiet before after stops.ReadFault h q c = absurd (c.1.0 (q c.0))
stop_is_memory task old new quiet before after (stops.Memory board) h q c = refl

-- the board that is left
stop_leaves : (words : List (List ℕ)) (task : Task) (old new : Option (List ℕ)) (quiet : Bool) (before after : ℕ) (stop : Stop) → AskFor task words → StopsBy task old new quiet before after stop → IfSome (board_of_stop stop) (LeavesBoard words old new)
stop_leaves words task old new quiet before after (stops.Refused kind at) a c = tt
stop_leaves words task old new quiet before after (stops.BadText n) a c = tt
stop_leaves words task old new quiet before after stops.ReadFault a c = tt
stop_leaves words task old new quiet before after (stops.Memory board) a c = go board c
  where
    go : (b : Option Seen) → IfSome b (Leaves task old new) → IfSome b (LeavesBoard words old new)
    go None l = tt
    go (Some s) l = record { task = task; asked = a; left = l }

-- ---- the clauses

module _ (words : List (List ℕ)) (task : Task) (asked : AskFor task words) (end : Status) (board : Option Seen) (left_old left_new : Option (List ℕ)) (source_quiet : Bool) (reads_before reads_after : ℕ) (written_old written_new : Option (List ℕ)) (sink_quiet : ℕ → Bool) (writes_before writes_after : ℕ) where
  pub answered : Ends task end board left_old left_new source_quiet reads_before reads_after written_old written_new sink_quiet writes_before writes_after → IsAnswered end → Answers words end board left_old left_new written_old written_new
  answered (whole h) a = record { task = task; asked = asked; text = h.text; made = h.made; written = h.written }
  answered (in_part h) a = absurd (subst {A = Status} IsAnswered h.end_is a)
  answered (stopped h) a = absurd (unanswered_stop h.stop (subst {A = Status} IsAnswered h.end_is a))

  pub write_fault : Ends task end board left_old left_new source_quiet reads_before reads_after written_old written_new sink_quiet writes_before writes_after → end ≡ WriteFault → AnswersInPart words board left_old left_new written_old written_new sink_quiet
  write_fault (whole h) e = absurd (subst {A = Status} IsAnswered e (answered_made task end board left_old left_new h.text h.made))
  write_fault (in_part h) e = record { task = task; asked = asked; text = h.text; end = h.whole; made = h.made; written = h.written; loud = h.cause.0 }
  write_fault (stopped h) e = absurd (stop_of_write_fault h.stop (sym h.end_is ∙ e))

  pub not_words : Ends task end board left_old left_new source_quiet reads_before reads_after written_old written_new sink_quiet writes_before writes_after → end ≡ Words → ⊥
  not_words (whole h) e = subst {A = Status} IsAnswered e (answered_made task end board left_old left_new h.text h.made)
  not_words (in_part h) e = let clash : WriteFault ≡ Words = sym h.end_is ∙ e in cc
  not_words (stopped h) e = stop_of_words h.stop (sym h.end_is ∙ e)

  pub read_cause : Ends task end board left_old left_new source_quiet reads_before reads_after written_old written_new sink_quiet writes_before writes_after → end ≡ ReadFault → Rose reads_before reads_after
  read_cause (whole h) e = absurd (subst {A = Status} IsAnswered e (answered_made task end board left_old left_new h.text h.made))
  read_cause (in_part h) e = let clash : WriteFault ≡ ReadFault = sym h.end_is ∙ e in absurd (cc)
  read_cause (stopped h) e = (stop_of_read_fault task left_old left_new source_quiet reads_before reads_after h.stop h.cause (sym h.end_is ∙ e)).1.1

  pub read_task : Ends task end board left_old left_new source_quiet reads_before reads_after written_old written_new sink_quiet writes_before writes_after → end ≡ ReadFault → AskToRead words
  read_task (whole h) e = absurd (subst {A = Status} IsAnswered e (answered_made task end board left_old left_new h.text h.made))
  read_task (in_part h) e = let clash : WriteFault ≡ ReadFault = sym h.end_is ∙ e in absurd (cc)
  read_task (stopped h) e = record { task = task; asked = asked; reads = (stop_of_read_fault task left_old left_new source_quiet reads_before reads_after h.stop h.cause (sym h.end_is ∙ e)).0 }

  pub no_board : Ends task end board left_old left_new source_quiet reads_before reads_after written_old written_new sink_quiet writes_before writes_after → HasNoBoard end → board ≡ None
  no_board (whole h) n = board_made task end board left_old left_new h.text h.made n
  no_board (in_part h) n = absurd (subst {A = Status} HasNoBoard h.end_is n)
  no_board (stopped h) n = h.board_is ∙ board_of_stopped h.stop (subst {A = Status} HasNoBoard h.end_is n)

  pub write_cause : Ends task end board left_old left_new source_quiet reads_before reads_after written_old written_new sink_quiet writes_before writes_after → end ≡ WriteFault → Rose writes_before writes_after
  write_cause (whole h) e = absurd (subst {A = Status} IsAnswered e (answered_made task end board left_old left_new h.text h.made))
  write_cause (in_part h) e = h.cause.1
  write_cause (stopped h) e = absurd (stop_of_write_fault h.stop (sym h.end_is ∙ e))

  pub refused : Ends task end board left_old left_new source_quiet reads_before reads_after written_old written_new sink_quiet writes_before writes_after → (kind : Kind) (at : ℕ) → end ≡ Refused kind at → Refuses words left_old left_new kind at
  refused (whole h) kind at e = absurd (subst {A = Status} IsAnswered e (answered_made task end board left_old left_new h.text h.made))
  refused (in_part h) kind at e = let clash : WriteFault ≡ Refused kind at = sym h.end_is ∙ e in absurd (cc)
  refused (stopped h) kind at e = record { task = task; asked = asked; refused = stop_of_refused task left_old left_new source_quiet reads_before reads_after h.stop kind at h.cause (sym h.end_is ∙ e) }

  pub bad_text : Ends task end board left_old left_new source_quiet reads_before reads_after written_old written_new sink_quiet writes_before writes_after → (n : ℕ) → end ≡ BadText n → HasBadAnswer words left_old left_new n
  bad_text (whole h) n e = absurd (subst {A = Status} IsAnswered e (answered_made task end board left_old left_new h.text h.made))
  bad_text (in_part h) n e = let clash : WriteFault ≡ BadText n = sym h.end_is ∙ e in absurd (cc)
  bad_text (stopped h) n e = let bad = stop_of_bad_text task left_old left_new source_quiet reads_before reads_after h.stop n h.cause (sym h.end_is ∙ e) in record { task = task; asked = asked; reads = bad.0; line = bad.1 }

  pub nothing : Ends task end board left_old left_new source_quiet reads_before reads_after written_old written_new sink_quiet writes_before writes_after → WritesNothing end written_old written_new
  nothing (whole h) = writes_all end written_old written_new (answered_made task end board left_old left_new h.text h.made)
  nothing (in_part h) = subst {A = Status} (λ s. WritesNothing s written_old written_new) (sym h.end_is) tt
  nothing (stopped h) = writes_none end written_old written_new h.nothing

  pub read_quiet : Ends task end board left_old left_new source_quiet reads_before reads_after written_old written_new sink_quiet writes_before writes_after → IsTrue source_quiet → end ≡ ReadFault → ⊥
  read_quiet (whole h) q e = subst {A = Status} IsAnswered e (answered_made task end board left_old left_new h.text h.made)
  read_quiet (in_part h) q e = let clash : WriteFault ≡ ReadFault = sym h.end_is ∙ e in cc
  read_quiet (stopped h) q e = (stop_of_read_fault task left_old left_new source_quiet reads_before reads_after h.stop h.cause (sym h.end_is ∙ e)).1.0 q

  pub memory : Ends task end board left_old left_new source_quiet reads_before reads_after written_old written_new sink_quiet writes_before writes_after → end ≡ Memory → IfSome board (LeavesBoard words left_old left_new)
  memory (whole h) e = absurd (subst {A = Status} IsAnswered e (answered_made task end board left_old left_new h.text h.made))
  memory (in_part h) e = let clash : WriteFault ≡ Memory = sym h.end_is ∙ e in absurd (cc)
  memory (stopped h) e = subst {A = Option Seen} (λ b. IfSome b (LeavesBoard words left_old left_new)) (sym h.board_is) (stop_leaves words task left_old left_new source_quiet reads_before reads_after h.stop asked h.cause)

  unrefused_here : Ends task end board left_old left_new source_quiet reads_before reads_after written_old written_new sink_quiet writes_before writes_after → HoldsText task left_old → IsUnrefused end
  unrefused_here (whole h) t = unrefused_answer end (answered_made task end board left_old left_new h.text h.made)
  unrefused_here (in_part h) t = subst {A = Status} IsUnrefused (sym h.end_is) tt
  unrefused_here (stopped h) t = subst {A = Status} IsUnrefused (sym h.end_is) (unrefused_stop task left_old left_new source_quiet reads_before reads_after h.stop t h.cause)

  pub unrefused : Ends task end board left_old left_new source_quiet reads_before reads_after written_old written_new sink_quiet writes_before writes_after → (other : Task) → AskFor other words → HoldsText other left_old → IsUnrefused end
  unrefused ends other a t = unrefused_here ends (subst {A = Task} (λ z. HoldsText z left_old) (one_task other task words a asked) t)

  completes_here : Ends task end board left_old left_new source_quiet reads_before reads_after written_old written_new sink_quiet writes_before writes_after → HoldsText task left_old → IsQuietFor task source_quiet → IsAnswered end ⊎ ((end ≡ Memory) ⊎ ((end ≡ WriteFault) × AnswersInPart words board left_old left_new written_old written_new sink_quiet))
  completes_here (whole h) t q = inl (answered_made task end board left_old left_new h.text h.made)
  completes_here (in_part h) t q = inr (inr (h.end_is, record { task = task; asked = asked; text = h.text; end = h.whole; made = h.made; written = h.written; loud = h.cause.0 }))
  completes_here (stopped h) t q = inr (inl (h.end_is ∙ stop_is_memory task left_old left_new source_quiet reads_before reads_after h.stop t q h.cause))

  pub completes : Ends task end board left_old left_new source_quiet reads_before reads_after written_old written_new sink_quiet writes_before writes_after → (other : Task) → AskFor other words → HoldsText other left_old → IsQuietFor other source_quiet → IsAnswered end ⊎ ((end ≡ Memory) ⊎ ((end ≡ WriteFault) × AnswersInPart words board left_old left_new written_old written_new sink_quiet))
  completes ends other a t q =
      let same = one_task other task words a asked in
      completes_here ends (subst {A = Task} (λ z. HoldsText z left_old) same t) (subst {A = Task} (λ z. IsQuietFor z source_quiet) same q)

pub reads : (words : List (List ℕ)) (t : Task) (old new : Option (List ℕ)) → AskFor t words → TakesFew t old new → ReadsIfAsked words old new
reads words (Complete settings workers) old new asked h = inr (record { task = Complete settings workers; asked = asked; reads = refl; few = h })
reads words (tasks.Journal settings workers) old new asked h = inr (record { task = tasks.Journal settings workers; asked = asked; reads = refl; few = h })
reads words Replay old new asked h = inr (record { task = Replay; asked = asked; reads = refl; few = h })
reads words Check old new asked h = inr (record { task = Check; asked = asked; reads = refl; few = h })
reads words (Convert format) old new asked h = inr (record { task = Convert format; asked = asked; reads = refl; few = h })
reads words Reduce old new asked h = inr (record { task = Reduce; asked = asked; reads = refl; few = h })
reads words Decide old new asked h = inr (record { task = Decide; asked = asked; reads = refl; few = h })
reads words Simplify old new asked h = inr (record { task = Simplify; asked = asked; reads = refl; few = h })
reads words (Summary settings number) old new asked h = inl h
reads words (Generate number) old new asked h = inl h

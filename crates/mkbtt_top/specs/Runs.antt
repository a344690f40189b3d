-- What a run comes to, by its words.
use Rattle.std.specs.Prelude.{ℕ, ◌≡◌, ◌⊎◌, ◌≤◌, Bool, List, length, Option, Some, ⊤, IfSome, IsTrue}
use Rattle.kb_io.specs.Bytes.{Appends, AppendsPart}
use Rattle.kb_term.specs.Signature.{Problem}
use Rattle.kb_text.specs.Problems.{Spells}
use Rattle.kb_text.specs.declared.kind.Kind.{Kind}
use Rattle.kb_syntax.specs.Generator.{generated}
use Rattle.mkb_board.specs.Boards.{Seen}
use Rattle.mkbtt_top.specs.Answering.{HasBadLine, IsAnswerLong}
use Rattle.mkbtt_top.specs.Checking.{Checks}
use Rattle.mkbtt_top.specs.Completing.{Completes, IsLeft, IsLeftOf, IsProblemRefused}
use Rattle.mkbtt_top.specs.Replaying.{Replays}
use Rattle.mkbtt_top.specs.declared.completing.Told.TheVariants as told
use Rattle.mkbtt_top.specs.Converting.{Converts}
use Rattle.mkbtt_top.specs.Deciding.{Decides, Simplifies}
use Rattle.mkbtt_top.specs.Reducing.{Reduces}
use Rattle.mkbtt_top.specs.Generating.{Generates, Summarises}
use Rattle.mkbtt_top.specs.Replies.{board_of_stop, status_of_stop, Fails}
use Rattle.mkbtt_top.specs.Tasks.{AskFor, form_of, is_reading, limit_of, reads_lines, TakesFew}
use Rattle.mkbtt_top.specs.declared.reply.Stop.{Stop}
use Rattle.mkbtt_top.specs.declared.reply.Stop.TheVariants as stops
use Rattle.mkbtt_top.specs.declared.task.Task.{Task}
use Rattle.mkbtt_top.specs.declared.task.Task.TheVariants.{Complete, Journal, Replay, Check, Convert, Reduce, Decide, Simplify, Summary, Generate}
use Rattle.mkbtt_top.specs.declared.workers.Workers.TheVariants.{Free}
use Rattle.mkbtt_top.specs.declared.status.Status.{Status}
use Rattle.mkbtt_top.specs.declared.status.Status.TheVariants.{Done, AllFailed, Rejected, BadEntry, Unreduced, Spent, Refused, BadText, ReadFault, WriteFault, Memory}
use Rattle.mkbtt_top.specs.declared.status.Status.TheVariants as status

-- ---- what is written

-- the status is one with which the whole text is written
abbrev pub IsAnswered : Status → Type 0
IsAnswered Done = ⊤
IsAnswered AllFailed = ⊤
IsAnswered (Rejected reason n) = ⊤
IsAnswered (BadEntry n) = ⊤
IsAnswered (Unreduced why n) = ⊤
IsAnswered (Spent spent) = ⊤
IsAnswered (Refused kind at) = ⊥
IsAnswered (BadText n) = ⊥
IsAnswered ReadFault = ⊥
IsAnswered WriteFault = ⊥
IsAnswered Memory = ⊥
IsAnswered status.Words = ⊥

-- the text, the status and the board are what the task makes of what is read: the report or the journal of a completion, the summary of the board to which a journal leads, what the checker says, the answer as it is written, its reduced system, what it says of goals and terms, the summary of a completion, or a generated problem
abbrev pub Makes : Task → Status → Option Seen → Option (List ℕ) → Option (List ℕ) → List ℕ → Type 0
Makes (Complete settings workers) end board old new text = Completes told.Report settings workers end board old new text
Makes (Journal settings workers) end board old new text = Completes told.Journal settings workers end board old new text
Makes Replay end board old new text = Replays end board old new text
Makes Check end board old new text = Checks end board old new text
Makes (Convert format) end board old new text = Converts format end board old new text
Makes Reduce end board old new text = Reduces end board old new text
Makes Decide end board old new text = Decides end board old new text
Makes Simplify end board old new text = Simplifies end board old new text
Makes (Summary settings number) end board old new text = Summarises settings number end board text × (new ≡ old)
Makes (Generate number) end board old new text = Generates number end board text × (new ≡ old)

-- the words ask for a task, and the sink gained the text that it makes
pub record Answers (words : List (List ℕ)) (end : Status) (board : Option Seen) (left_old left_new written_old written_new : Option (List ℕ)) : Type 0 where
  pub task : Task
  pub asked : AskFor task words
  pub text : List ℕ
  pub made : Makes task end board left_old left_new text
  pub written : Appends written_old text written_new

-- the words ask for a task, and the sink, which isn't quiet for the text that it makes, gained a proper front of it
pub record AnswersInPart (words : List (List ℕ)) (board : Option Seen) (left_old left_new written_old written_new : Option (List ℕ)) (quiet : ℕ → Bool) : Type 0 where
  pub task : Task
  pub asked : AskFor task words
  pub text : List ℕ
  pub end : Status
  pub made : Makes task end board left_old left_new text
  pub written : AppendsPart written_old text written_new
  pub loud : IsTrue (quiet (length text)) → ⊥

-- ---- why nothing is written

-- the refusal of what the task reads: a problem, or an answer or a journal that has too many bytes
abbrev pub IsRefusedBy : Task → Option (List ℕ) → Option (List ℕ) → Kind → ℕ → Type 0
IsRefusedBy (Complete settings workers) old new kind at = IsProblemRefused old new kind at
IsRefusedBy (Journal settings workers) old new kind at = IsProblemRefused old new kind at
IsRefusedBy Replay old new kind at = IsAnswerLong old kind at
IsRefusedBy Check old new kind at = IsAnswerLong old kind at
IsRefusedBy (Convert format) old new kind at = IsAnswerLong old kind at
IsRefusedBy Reduce old new kind at = IsAnswerLong old kind at
IsRefusedBy Decide old new kind at = IsAnswerLong old kind at
IsRefusedBy Simplify old new kind at = IsAnswerLong old kind at
IsRefusedBy (Summary settings number) old new kind at = ⊥
IsRefusedBy (Generate number) old new kind at = ⊥

-- the words ask for a task that reads, and what it reads is refused so
pub record Refuses (words : List (List ℕ)) (left_old left_new : Option (List ℕ)) (kind : Kind) (at : ℕ) : Type 0 where
  pub task : Task
  pub asked : AskFor task words
  pub refused : IsRefusedBy task left_old left_new kind at

-- the words ask for a task that reads an answer or a journal, and this line is the first that isn't of the form of such a text
pub record HasBadAnswer (words : List (List ℕ)) (left_old left_new : Option (List ℕ)) (n : ℕ) : Type 0 where
  pub task : Task
  pub asked : AskFor task words
  pub reads : IsTrue (reads_lines task)
  pub line : HasBadLine (form_of task) left_old left_new n

-- the board is left of the completion for which the task asks, where there was no memory: of the problem that was read, or of the generated one; the other tasks leave none
abbrev pub Leaves : Task → Option (List ℕ) → Option (List ℕ) → Seen → Type 0
Leaves (Complete settings workers) old new board = IsLeftOf settings workers old new board
Leaves (Journal settings workers) old new board = IsLeftOf settings workers old new board
Leaves (Summary settings number) old new board = IsLeft (generated number) settings (Free 1) board
Leaves task old new board = ⊥

-- the words ask for a task that leaves the board
pub record LeavesBoard (words : List (List ℕ)) (left_old left_new : Option (List ℕ)) (board : Seen) : Type 0 where
  pub task : Task
  pub asked : AskFor task words
  pub left : Leaves task left_old left_new board

-- why the task makes nothing
abbrev pub StopsBy : Task → Option (List ℕ) → Option (List ℕ) → Bool → ℕ → ℕ → Stop → Type 0
StopsBy task old new quiet before after (stops.Refused kind at) = IsRefusedBy task old new kind at
StopsBy task old new quiet before after (stops.BadText n) = IsTrue (reads_lines task) × HasBadLine (form_of task) old new n
StopsBy task old new quiet before after stops.ReadFault = IsTrue (is_reading task) × Fails quiet before after
StopsBy task old new quiet before after (stops.Memory board) = IfSome board (Leaves task old new)

-- the words ask for a task that reads
pub record AskToRead (words : List (List ℕ)) : Type 0 where
  pub task : Task
  pub asked : AskFor task words
  pub reads : IsTrue (is_reading task)

-- the words ask for a task that reads, and at most one byte more was taken than it may read
pub record ReadsFew (words : List (List ℕ)) (left_old left_new : Option (List ℕ)) : Type 0 where
  pub task : Task
  pub asked : AskFor task words
  pub reads : IsTrue (is_reading task)
  pub few : TakesFew task left_old left_new

-- nothing was read, or the words ask for a task that reads, and few bytes were taken
abbrev pub ReadsIfAsked : List (List ℕ) → Option (List ℕ) → Option (List ℕ) → Type 0
ReadsIfAsked words old new = (new ≡ old) ⊎ ReadsFew words old new

-- a run that ends so has made no board
abbrev pub HasNoBoard : Status → Type 0
HasNoBoard Done = ⊥
HasNoBoard AllFailed = ⊥
HasNoBoard (Rejected reason n) = ⊤
HasNoBoard (BadEntry n) = ⊤
HasNoBoard (Unreduced why n) = ⊤
HasNoBoard (Spent spent) = ⊥
HasNoBoard (Refused kind at) = ⊤
HasNoBoard (BadText n) = ⊤
HasNoBoard ReadFault = ⊤
HasNoBoard WriteFault = ⊥
HasNoBoard Memory = ⊥
HasNoBoard status.Words = ⊤

-- unless a text was written, whole or in part, nothing is
abbrev pub WritesNothing : Status → Option (List ℕ) → Option (List ℕ) → Type 0
WritesNothing Done old new = ⊤
WritesNothing AllFailed old new = ⊤
WritesNothing (Rejected reason n) old new = ⊤
WritesNothing (BadEntry n) old new = ⊤
WritesNothing (Unreduced why n) old new = ⊤
WritesNothing (Spent spent) old new = ⊤
WritesNothing (Refused kind at) old new = new ≡ old
WritesNothing (BadText n) old new = new ≡ old
WritesNothing ReadFault old new = new ≡ old
WritesNothing WriteFault old new = ⊤
WritesNothing Memory old new = new ≡ old
WritesNothing status.Words old new = new ≡ old

-- ---- what is read in full

-- the source tells its bytes, which are of this form, and at most so many
pub record HoldsFew (IsOfForm : List ℕ → Type 0) (limit : ℕ) (left : Option (List ℕ)) : Type 0 where
  pub bytes : List ℕ
  pub told : left ≡ Some bytes
  pub few : length bytes ≤ limit
  pub of_form : IsOfForm bytes

-- the bytes spell a problem
abbrev pub SpellOne : List ℕ → Type 0
SpellOne bytes = (problem : Problem) × Spells bytes problem

-- the bytes of the source spell what the task reads: a problem, or a text of its form; for a task that reads nothing they may be any
abbrev pub HoldsText : Task → Option (List ℕ) → Type 0
HoldsText (Complete settings workers) left = HoldsFew SpellOne (limit_of (Complete settings workers)) left
HoldsText (Journal settings workers) left = HoldsFew SpellOne (limit_of (Journal settings workers)) left
HoldsText (Summary settings number) left = ⊤
HoldsText (Generate number) left = ⊤
HoldsText task left = HoldsFew (form_of task) (limit_of task) left

-- the source is quiet, where the task reads from it
abbrev pub IsQuietFor : Task → Bool → Type 0
IsQuietFor task quiet = IsTrue (is_reading task) → IsTrue quiet

-- what was read isn't refused
abbrev pub IsUnrefused : Status → Type 0
IsUnrefused (Refused kind at) = ⊥
IsUnrefused (BadText n) = ⊥
IsUnrefused end = ⊤

-- ---- a task

-- the text that the task makes was written whole
pub record EndsWhole (task : Task) (end : Status) (board : Option Seen) (left_old left_new written_old written_new : Option (List ℕ)) : Type 0 where
  pub text : List ℕ
  pub made : Makes task end board left_old left_new text
  pub written : Appends written_old text written_new

-- the sink, which isn't quiet for the text that the task makes, failed after a proper front of it
pub record EndsInPart (task : Task) (end : Status) (board : Option Seen) (left_old left_new written_old written_new : Option (List ℕ)) (quiet : ℕ → Bool) (before after : ℕ) : Type 0 where
  pub text : List ℕ
  pub whole : Status
  pub made : Makes task whole board left_old left_new text
  pub written : AppendsPart written_old text written_new
  pub end_is : end ≡ WriteFault
  pub cause : Fails (quiet (length text)) before after

-- the task makes nothing, and nothing is written
pub record EndsStopped (task : Task) (end : Status) (board : Option Seen) (left_old left_new written_old written_new : Option (List ℕ)) (quiet : Bool) (before after : ℕ) : Type 0 where
  pub stop : Stop
  pub cause : StopsBy task left_old left_new quiet before after stop
  pub end_is : end ≡ status_of_stop stop
  pub board_is : board ≡ board_of_stop stop
  pub nothing : written_new ≡ written_old

-- one of these
pub data Ends (task : Task) (end : Status) (board : Option Seen) (left_old left_new : Option (List ℕ)) (source_quiet : Bool) (reads_before reads_after : ℕ) (written_old written_new : Option (List ℕ)) (sink_quiet : ℕ → Bool) (writes_before writes_after : ℕ) : Type 0 where
  whole : EndsWhole task end board left_old left_new written_old written_new → Ends task end board left_old left_new source_quiet reads_before reads_after written_old written_new sink_quiet writes_before writes_after
  in_part : EndsInPart task end board left_old left_new written_old written_new sink_quiet writes_before writes_after → Ends task end board left_old left_new source_quiet reads_before reads_after written_old written_new sink_quiet writes_before writes_after
  stopped : EndsStopped task end board left_old left_new written_old written_new source_quiet reads_before reads_after → Ends task end board left_old left_new source_quiet reads_before reads_after written_old written_new sink_quiet writes_before writes_after

-- What the words ask for.
use Rattle.kb_io.specs.Bytes.{TakesAtMost}
use Rattle.std.specs.Prelude.{ℕ, ◌+◌, ◌≡◌, ◌≤◌, List, Option, Bool, true, false, ⊤}
use Rattle.mkbtt_words.specs.Reading.{AreRead}
use Rattle.mkbtt_words.specs.declared.mode.Mode.{Mode}
use Rattle.mkbtt_words.specs.declared.mode.Mode.TheVariants as modes
use Rattle.mkbtt_words.specs.declared.words.Words.{Words}
use Rattle.mkbtt_top.specs.Workers.{FewWorkers}
use Rattle.mkbtt_top.specs.declared.workers.Workers.TheVariants.{Free, InRounds}
use Rattle.mkbtt_top.specs.declared.task.Task.{Task}
use Rattle.mkbtt_top.specs.declared.task.Task.TheVariants.{Complete, Journal, Replay, Check, Convert, Reduce, Decide, Simplify, Summary, Generate}
use Rattle.mkb_model.specs.declared.settings.Selection.{Selection}
use Rattle.mkb_model.specs.declared.settings.Selection.TheVariants.{Stated, Size}
use Rattle.mkb_model.specs.declared.settings.Settings.{Settings}
use Rattle.mkb_model.specs.Journals.{stated}
use Rattle.mkbtt_words.specs.declared.selection.Selection.TheVariants as words
use Rattle.mkbtt_words.specs.declared.selection.Selection.{Selection as Named}
use Rattle.kb_report.specs.Answers.{IsSystemText}
use Rattle.kb_goals.specs.Asking.{IsGoalsText}
use Rattle.kb_goals.specs.Simplifying.{IsTermsText}
use Rattle.kb_journal.specs.Journals.{IsJournalText}
use Rattle.kb_term.specs.declared.limits.TheConstants.{MAX_ANSWER_BYTES, MAX_PROBLEM_BYTES}

-- the selection of a run that the words name
abbrev pub selection_by : Named → Selection
selection_by words.Stated = Stated
selection_by words.Size = Size

-- the settings of the run that the words ask for
abbrev pub settings_of : Words → Settings
settings_of w = record (stated w.budget) { selection = selection_by w.selection }

-- what a mode asks for with the numbers and names of the words
abbrev pub task_by : Mode → Words → Task
task_by modes.Complete w = Complete (settings_of w) (Free w.workers)
task_by modes.Rounds w = Complete (settings_of w) (InRounds w.workers)
task_by modes.Journal w = Journal (settings_of w) (Free w.workers)
task_by modes.Replay w = Replay
task_by modes.Check w = Check
task_by modes.Convert w = Convert w.format
task_by modes.Reduce w = Reduce
task_by modes.Decide w = Decide
task_by modes.Simplify w = Simplify
task_by modes.Summary w = Summary (settings_of w) w.number
task_by modes.Gen w = Generate w.number

abbrev pub task_of : Words → Task
task_of w = task_by w.mode w

-- the command takes the words, and they ask for this
pub record AskFor (task : Task) (words : List (List ℕ)) : Type 0 where
  pub read : Words
  pub are_read : AreRead words read
  pub asked : task_of read ≡ task

-- for this something is read
abbrev pub is_reading : Task → Bool
is_reading (Complete settings workers) = true
is_reading (Journal settings workers) = true
is_reading Replay = true
is_reading Check = true
is_reading (Convert format) = true
is_reading Reduce = true
is_reading Decide = true
is_reading Simplify = true
is_reading (Summary settings number) = false
is_reading (Generate number) = false

-- for this an answer or a journal is read, whose text goes by lines
abbrev pub reads_lines : Task → Bool
reads_lines (Complete settings workers) = false
reads_lines (Journal settings workers) = false
reads_lines Replay = true
reads_lines Check = true
reads_lines (Convert format) = true
reads_lines Reduce = true
reads_lines Decide = true
reads_lines Simplify = true
reads_lines (Summary settings number) = false
reads_lines (Generate number) = false

-- the form of the text that is read for this, where it goes by lines
abbrev pub form_of : Task → List ℕ → Type 0
form_of Replay bytes = IsJournalText bytes
form_of Decide bytes = IsGoalsText bytes
form_of Simplify bytes = IsTermsText bytes
form_of task bytes = IsSystemText bytes

-- there are from 1 to 16 workers, and the number of a generated problem is from 1 to 64
abbrev pub HasNumber : Task → Type 0
HasNumber (Complete settings workers) = FewWorkers workers
HasNumber (Journal settings workers) = FewWorkers workers
HasNumber Replay = ⊤
HasNumber Check = ⊤
HasNumber (Convert format) = ⊤
HasNumber Reduce = ⊤
HasNumber Decide = ⊤
HasNumber Simplify = ⊤
HasNumber (Summary settings number) = (1 ≤ number) × (number ≤ 64)
HasNumber (Generate number) = (1 ≤ number) × (number ≤ 64)

-- the most bytes that the task may read
abbrev pub limit_of : Task → ℕ
limit_of (Complete settings workers) = MAX_PROBLEM_BYTES
limit_of (Journal settings workers) = MAX_PROBLEM_BYTES
limit_of task = MAX_ANSWER_BYTES

-- at most one byte more is taken than the task may read, and none for a task that reads nothing
abbrev pub TakesFew : Task → Option (List ℕ) → Option (List ℕ) → Type 0
TakesFew (Summary settings number) old new = new ≡ old
TakesFew (Generate number) old new = new ≡ old
TakesFew task old new = TakesAtMost old (limit_of task + 1) new

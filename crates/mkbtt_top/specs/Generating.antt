-- Generated problems: their text, and the summary of their completion.
use Rattle.std.specs.Prelude.{ℕ, ◌≡◌, List, Option, Some, None}
use Rattle.kb_text.specs.Terms.{problem_text}
use Rattle.kb_syntax.specs.Generator.{generated}
use Rattle.kb_label.specs.declared.verdict.Verdict.{Verdict}
use Rattle.kb_report.specs.Summaries.{summary_text}
use Rattle.mkb_board.specs.Boards.{Seen, drops_in}
use Rattle.mkb_report.specs.Summaries.{summary_of}
use Rattle.mkbtt_top.specs.Completing.{IsFinished}
use Rattle.mkbtt_top.specs.declared.workers.Workers.TheVariants.{Free}
use Rattle.mkbtt_top.specs.declared.status.Status.{Status}
use Rattle.mkbtt_top.specs.declared.status.Status.TheVariants.{Done}
use Rattle.mkb_model.specs.declared.settings.Settings.{Settings}

-- the text is that of the generated problem with this number
pub record Generates (number : ℕ) (status : Status) (board : Option Seen) (text : List ℕ) : Type 0 where
  pub status_is : status ≡ Done
  pub board_is : board ≡ None
  pub text_is : text ≡ problem_text (generated number)

-- the text of the summary of a board, with the tickets that its journal drops
abbrev pub board_text : Seen → List ℕ
board_text board = summary_text (summary_of board.plain (drops_in board.journal))

-- the board is one on which one worker alone completed the generated problem with this number, and the text is its summary
pub record Summarises (settings : Settings) (number : ℕ) (status : Status) (board : Option Seen) (text : List ℕ) : Type 0 where
  pub end : Seen
  pub verdict : Verdict
  pub status_is : status ≡ Done
  pub board_is : board ≡ Some end
  pub finished : IsFinished (generated number) settings (Free 1) end verdict
  pub text_is : text ≡ board_text end

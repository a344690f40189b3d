-- What a replay of a journal comes to.
use Rattle.std.specs.Prelude.{ℕ, ◌≡◌, List, [], ◌∷◌, Option, Some, None, codes, decimal}
use Rattle.kb_io.specs.Bytes.{TakesAll}
use Rattle.kb_text.specs.Lines.{line}
use Rattle.kb_journal.specs.Journals.{Journal, JournalSpelled}
use Rattle.kb_journal.specs.Replays.{HasLines, IsBadEntry}
use Rattle.mkb_board.specs.Boards.{Seen}
use Rattle.mkbtt_top.specs.Generating.{board_text}
use Rattle.mkbtt_top.specs.declared.status.Status.{Status}
use Rattle.mkbtt_top.specs.declared.status.Status.TheVariants.{Done, BadEntry}

-- the source was read to its end, and its bytes are the text of the journal
pub record IsJournalFrom (left_old left_new : Option (List ℕ)) (journal : Journal) : Type 0 where
  pub bytes : List ℕ
  pub read : TakesAll left_old bytes left_new
  pub spelled : JournalSpelled bytes journal

-- the line that names a bad entry
abbrev pub bad_entry_text : ℕ → List ℕ
bad_entry_text n = line (codes "BAD" ∷ codes "ENTRY" ∷ decimal n ∷ [])

-- what a replay comes to: each entry was made again, and the summary of the board is told; or this entry is the first that no board makes
pub data IsReplay (journal : Journal) : Status → Option Seen → List ℕ → Type 0 where
  made : {text : List ℕ} (board : Seen) → HasLines journal.problem journal.settings journal.lines board.journal board.plain → text ≡ board_text board → IsReplay journal Done (Some board) text
  bad : {text : List ℕ} (n : ℕ) → IsBadEntry journal n → text ≡ bad_entry_text n → IsReplay journal (BadEntry n) None text

-- the source was read to its end, and this is what a replay of the journal comes to that its bytes spell
pub record Replays (status : Status) (board : Option Seen) (left_old left_new : Option (List ℕ)) (text : List ℕ) : Type 0 where
  pub journal : Journal
  pub from : IsJournalFrom left_old left_new journal
  pub replay : IsReplay journal status board text

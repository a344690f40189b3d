-- How replies are written.
use Rattle.std.specs.Prelude.{ℕ, ◌≡◌, ◌⊎◌, IsTrue, Bool, List, length, Option, None}
use Rattle.kb_io.specs.Bytes.{Appends, AppendsPart, Rose}
use Rattle.mkb_board.specs.Boards.{Seen}
use Rattle.mkbtt_top.specs.declared.reply.Stop.{Stop}
use Rattle.mkbtt_top.specs.declared.reply.Stop.TheVariants as stops
use Rattle.mkbtt_top.specs.declared.status.Status.{Status}
use Rattle.mkbtt_top.specs.declared.status.Status.TheVariants.{Refused, BadText, ReadFault, WriteFault, Memory}

-- there was a fault of a source or a sink that isn't quiet
abbrev pub Fails : Bool → ℕ → ℕ → Type 0
Fails quiet before after = (IsTrue quiet → ⊥) × Rose before after

-- the text was written, and the run ends with its status; or the sink failed after a proper front of it, and isn't quiet for the whole
abbrev pub IsWritten : Status → List ℕ → Status → Option (List ℕ) → Option (List ℕ) → (ℕ → Bool) → ℕ → ℕ → Type 0
IsWritten status text end old new quiet before after =
    ((end ≡ status) × Appends old text new) ⊎ ((end ≡ WriteFault) × AppendsPart old text new × Fails (quiet (length text)) before after)

abbrev pub status_of_stop : Stop → Status
status_of_stop (stops.Refused kind at) = Refused kind at
status_of_stop (stops.BadText n) = BadText n
status_of_stop stops.ReadFault = ReadFault
status_of_stop (stops.Memory board) = Memory

abbrev pub board_of_stop : Stop → Option Seen
board_of_stop (stops.Memory board) = board
board_of_stop stop = None

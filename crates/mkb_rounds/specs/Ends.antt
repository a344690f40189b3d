-- How the work by rounds ends.
use Rattle.std.specs.Prelude.{◌≡◌, true, false}
use Rattle.kb_term.specs.Signature.{Problem}
use Rattle.mkb_model.specs.declared.settings.Settings.{Settings}
use Rattle.work_crew.specs.Alone.{IsBrokenOff}
use Rattle.work_crew.specs.declared.alone.Crew.{Crew}
use Rattle.mkb_rounds.specs.Rounds.{IsRounds}

-- the journal is that of rounds; or no memory was found, and the work was broken off
abbrev pub EndsByRounds : Problem → Settings → Crew → Type 0
EndsByRounds P n crew = (crew.out_of_memory ≡ false → IsRounds P n crew.board.journal crew.board.plain) × (crew.out_of_memory ≡ true → IsBrokenOff P n crew.board)

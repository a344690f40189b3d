-- The workers of a completion.
use Rattle.std.specs.Prelude.{ℕ, ◌≡◌, ◌≢◌, ◌≤◌, Bool, true, false}
use Rattle.kb_term.specs.Signature.{Problem}
use Rattle.mkb_board.specs.Boards.{IsLegalBoard}
use Rattle.mkb_rounds.specs.Ends.{EndsByRounds}
use Rattle.work_crew.specs.Alone.{EndsAlone}
use Rattle.work_crew.specs.Together.{EndsTogether}
use Rattle.work_crew.specs.declared.alone.Crew.{Crew}
use Rattle.mkbtt_top.specs.declared.workers.Workers.{Workers}
use Rattle.mkbtt_top.specs.declared.workers.Workers.TheVariants.{Free, InRounds}
use Rattle.mkb_model.specs.declared.settings.Settings.{Settings}

-- there are from 1 to 16 workers
abbrev pub FewWorkers : Workers → Type 0
FewWorkers (Free n) = (1 ≤ n) × (n ≤ 16)
FewWorkers (InRounds n) = (1 ≤ n) × (n ≤ 16)

-- how many of them take tickets: of those in rounds one does
abbrev pub takers_of : Workers → ℕ
takers_of (Free n) = n
takers_of (InRounds n) = 1

-- they work by rounds
abbrev pub are_in_rounds : Workers → Bool
are_in_rounds (Free n) = false
are_in_rounds (InRounds n) = true

-- the workers ended the work on the problem: one alone, several together, or by rounds
abbrev pub EndsBy : Problem → Settings → Workers → Crew → Type 0
EndsBy P s (Free n) crew = (n ≡ 1 → EndsAlone P s crew × IsLegalBoard crew.board) × (n ≢ 1 → EndsTogether P s n crew)
EndsBy P s (InRounds n) crew = EndsByRounds P s crew × IsLegalBoard crew.board

-- What a replay answers.
use Rattle.std.specs.Prelude.{ℕ, ◌-◌, ◌≤◌, ◌≡◌, List, [], ◌∷◌, ◌++◌, map, length, take, Bool, true, false, Contains, ⊤}
use Rattle.kb_term.specs.Signature.{Problem}
use Rattle.mkb_model.specs.Plain.{Plain}
use Rattle.mkb_model.specs.Journals.{After}
use Rattle.mkb_model.specs.declared.entry.Ticket.{Ticket}
use Rattle.mkb_model.specs.declared.entry.Entry.{Entry}
use Rattle.mkb_model.specs.declared.settings.Settings.{Settings}
use Rattle.mkb_board.specs.Boards.{Seen, IsLegalBoard}
use Rattle.mkb_model.specs.declared.proposed.Proposed.{Proposed}
use Rattle.mkb_board.specs.Held.{IsHeld}
use Rattle.mkb_board.specs.Takes.{IsFinishedBy}
use Rattle.mkb_board.specs.declared.answers.Finished.{Finished}
use Rattle.kb_journal.specs.declared.entry_line.EntryLine.{EntryLine}
use Rattle.kb_journal.specs.declared.fault.ReplayFault.{ReplayFault}
use Rattle.kb_journal.specs.declared.fault.ReplayFault.TheVariants.{BadEntry, Memory}
use Rattle.kb_journal.specs.declared.replaying.Hand.{Hand}
use Rattle.kb_journal.specs.EntryLines.{line_of}
use Rattle.kb_journal.specs.Journals.{Journal}

-- ---- lines and journals

-- the journal is legal, and these are its lines on the board to which it leads
pub record HasLines (P : Problem) (s : Settings) (ls : List EntryLine) (J : List Entry) (c : Plain) : Type 0 where
  pub after : After P s J c
  pub lines_are : map (line_of c.nodes) J ≡ ls

-- some legal journal has these lines
abbrev pub AreMade : Problem → Settings → List EntryLine → Type 0
AreMade P s ls = (J : List Entry) × (c : Plain) × HasLines P s ls J c

-- two legal journals with the same lines are the same, and so are their boards
abbrev pub LinesDecideJournals : Problem → Settings → Type 0
LinesDecideJournals problem settings =
    (lines : List EntryLine) (journal other : List Entry) (board end : Plain) → HasLines problem settings lines journal board → HasLines problem settings lines other end → (journal ≡ other) × (board ≡ end)

-- the entry with this number, from 1, is the first that no board makes: a legal journal has the lines before it, and none has them and its own
pub record IsBadEntry (j : Journal) (n : ℕ) : Type 0 where
  pub from_one : 1 ≤ n
  pub within : n ≤ length j.lines
  pub before : AreMade j.problem j.settings (take (n - 1) j.lines)
  pub with_it : ¬ AreMade j.problem j.settings (take n j.lines)

-- why a journal is not replayed
abbrev pub IsReplayFault : Journal → ReplayFault → Type 0
IsReplayFault j (BadEntry n) = IsBadEntry j n
IsReplayFault j Memory = ⊤

-- ---- one entry

-- the new board is the old one with one entry more, whose line this is
pub record Makes (old new : Seen) (l : EntryLine) : Type 0 where
  pub entry : Entry
  pub entered : new.journal ≡ old.journal ++ entry ∷ []
  pub line_is : line_of new.plain.nodes entry ≡ l
  pub problem_is : new.plain.problem ≡ old.plain.problem
  pub settings_are : new.plain.settings ≡ old.plain.settings

-- no entry that may follow on the board has the line
abbrev pub CannotMake : Seen → EntryLine → Type 0
CannotMake b l = (e : Entry) (c : Plain) → After b.plain.problem b.plain.settings (b.journal ++ e ∷ []) c → ¬ (line_of c.nodes e ≡ l)

-- the tickets of these hands
abbrev pub tickets_of : List Hand → List Ticket
tickets_of hs = map (λ (h : Hand). h.ticket) hs

-- the board is legal, and the hands hold each ticket in flight with what its job reads, and no other
pub record HoldAll (b : Seen) (hs : List Hand) : Type 0 where
  pub legal : IsLegalBoard b
  pub each : (h : Hand) → Contains hs h → IsHeld b h.ticket h.snapshot
  pub whole : (t : Ticket) → Contains b.plain.flight t → Contains (tickets_of hs) t

-- what making an entry with this line came to
abbrev pub IsMadeOrNot : Seen → Seen → List Hand → EntryLine → Bool → Type 0
IsMadeOrNot old new hands l true = Makes old new l × HoldAll new hands
IsMadeOrNot old new hands l false = CannotMake old l

-- the answer of a finish of the ticket with some proposal is this one
abbrev pub IsFinishOf : Seen → Seen → Ticket → Finished → Type 0
IsFinishOf old new t f = (x : Proposed) × IsFinishedBy old new t x f

-- the board follows the journal up to these lines
pub record IsAt (j : Journal) (b : Seen) (ls : List EntryLine) : Type 0 where
  pub problem_is : b.plain.problem ≡ j.problem
  pub settings_are : b.plain.settings ≡ j.settings
  pub has : HasLines j.problem j.settings ls b.journal b.plain

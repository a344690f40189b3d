-- What the calls of a board answer and leave.
use Rattle.std.specs.Prelude.{ℕ, ◌+◌, ◌<◌, List, [], ◌∷◌, ◌++◌, length, ◌≡◌, Contains, IsTrue, IsFalse, Some, None}
use Rattle.kb_jobs.specs.Working.{IsReadable, IsTaken, job_of}
use Rattle.kb_jobs.specs.declared.working.Snapshot.{Snapshot}
use Rattle.mkb_model.specs.Plain.{Plain}
use Rattle.mkb_model.specs.DueJobs.{first_job}
use Rattle.mkb_model.specs.Verdicts.{verdict}
use Rattle.mkb_model.specs.Journals.{After, in_flight, landed}
use Rattle.mkb_model.specs.Jobs.{process_of}
use Rattle.mkb_model.specs.Effects.{acted, effect, effect_entry, limit_of, is_dropped}
use Rattle.mkb_rules.specs.Applying.{applied_as}
use Rattle.mkb_rules.specs.declared.applied.Applied.{Applied}
use Rattle.mkb_model.specs.Proposals.{Proposes}
use Rattle.mkb_model.specs.declared.entry.Ticket.{Ticket}
use Rattle.mkb_model.specs.declared.entry.Entry.{Entry}
use Rattle.mkb_model.specs.declared.entry.Entry.TheVariants.{Take, Commit, Drop}
use Rattle.mkb_model.specs.declared.proposed.Proposed.{Proposed}
use Rattle.mkb_board.specs.Boards.{Seen, IsLegalBoard, takes_in, has_halt}
use Rattle.mkb_board.specs.declared.answers.Taken.{Taken}
use Rattle.mkb_board.specs.declared.answers.Finished.{Finished}
use Rattle.mkb_board.specs.declared.answers.Finished.TheVariants.{Ended, Dropped, Committed}
use Rattle.mkb_board.specs.declared.answers.Taken.TheVariants.{Job as TakenJob, Idle, Over, Halted}

-- the entry of the ticket's take
abbrev pub take_entry : Ticket → Entry
take_entry t = Take t.worker t.number t.job

-- the ticket was taken on this board: its take stands in the journal, and what came before leads to the board
pub record IsTakenOn (s : Seen) (t : Ticket) (before : Plain) : Type 0 where
  pub earlier : List Entry
  pub later : List Entry
  pub parts : s.journal ≡ earlier ++ take_entry t ∷ later
  pub after : After s.plain.problem s.plain.settings earlier before

-- the proposal is that of the ticket's job on the board from which it was taken
abbrev pub IsProposalOf : Seen → Ticket → Proposed → Type 0
IsProposalOf s t x = (before : Plain) × IsTakenOn s t before × Proposes before t.job x

-- the first job was taken by the worker under the next number, with what it reads of the board
pub record TakesJob (old new : Seen) (worker : ℕ) (t : Ticket) (s : Snapshot) : Type 0 where
  pub no_verdict : verdict old.plain ≡ None
  pub no_halt : IsFalse (has_halt old.journal)
  pub first : first_job old.plain ≡ Some t.job
  pub worker_is : t.worker ≡ worker
  pub number_is : t.number ≡ takes_in old.journal + 1
  pub flies : new.plain ≡ in_flight t.worker t.number t.job old.plain
  pub entered : new.journal ≡ old.journal ++ take_entry t ∷ []
  pub job_is : job_of s ≡ t.job
  pub reads : IsTaken old.plain s
  pub readable : IsReadable s

-- the answer of a take is this one, and the new board is what it leaves
abbrev pub IsTakenBy : Seen → Seen → ℕ → Taken → Type 0
IsTakenBy old new worker (TakenJob t s) = TakesJob old new worker t s
IsTakenBy old new worker (Idle n) =
    (new ≡ old) × (verdict old.plain ≡ None) × IsFalse (has_halt old.journal) × (first_job old.plain ≡ None) × (n ≡ length old.plain.flight) × (0 < n)
IsTakenBy old new worker (Over v) = (new ≡ old) × (verdict old.plain ≡ Some v)
IsTakenBy old new worker Halted = (new ≡ old) × (verdict old.plain ≡ None) × IsTrue (has_halt old.journal)

-- the answer of a finish is this one, and the new board is what it leaves
abbrev pub IsFinishedBy : Seen → Seen → Ticket → Proposed → Finished → Type 0
IsFinishedBy old new t x (Ended v) = (new ≡ old) × (verdict old.plain ≡ Some v)
IsFinishedBy old new t x (Dropped p) =
    (verdict old.plain ≡ None) × IsTrue (is_dropped old.plain x) × (p ≡ process_of t.job) × (new.plain ≡ landed t.number old.plain) × (new.journal ≡ old.journal ++ Drop t.worker t.number p ∷ [])
IsFinishedBy old new t x (Committed a) =
    (verdict old.plain ≡ None) × IsFalse (is_dropped old.plain x) × (a ≡ applied_as (limit_of old.plain x)) × (new.plain ≡ landed t.number (effect old.plain x)) × (new.journal ≡ old.journal ++ Commit t.worker t.number (effect_entry old.plain x) ∷ [])

-- what a commit makes of the board before any process falls asleep or wakes, without what flies
abbrev pub unsettled : Plain → Proposed → Plain
unsettled b x = record (acted b x) { flight = [] }

-- on a legal board the ticket, which was in flight, was ended with its proposal; that was committed, and the new board is what it leaves
pub record IsCommittedBy (old new : Seen) (t : Ticket) (x : Proposed) (a : Applied) : Type 0 where
  pub legal : IsLegalBoard old
  pub flying : Contains old.plain.flight t
  pub proposed : IsProposalOf old t x
  pub finished : IsFinishedBy old new t x (Committed a)

-- Tickets in the hands of workers.
use Rattle.std.specs.Prelude.{ℕ, List, ◌++◌, Contains, ◌≡◌}
use Rattle.kb_jobs.specs.Working.{IsReadable, IsTaken, job_of}
use Rattle.kb_jobs.specs.declared.working.Snapshot.{Snapshot}
use Rattle.mkb_model.specs.Plain.{Plain}
use Rattle.mkb_model.specs.Journals.{own}
use Rattle.mkb_model.specs.declared.entry.Ticket.{Ticket}
use Rattle.mkb_model.specs.declared.entry.Entry.{Entry}
use Rattle.mkb_board.specs.Boards.{Seen}
use Rattle.mkb_board.specs.Takes.{IsTakenOn}

-- the ticket is in flight, and what its job reads is what the board from which it was taken has
pub record IsHeld (b : Seen) (t : Ticket) (s : Snapshot) : Type 0 where
  pub flying : Contains b.plain.flight t
  pub before : Plain
  pub taken : IsTakenOn b t before
  pub job_is : job_of s ≡ t.job
  pub reads : IsTaken before s
  pub readable : IsReadable s

-- what is held on the first board is held on the second one
abbrev pub StaysHeld : Seen → Seen → Ticket → Snapshot → Type 0
StaysHeld old new t s = IsHeld old t s → IsHeld new t s

-- what is held on the first board is held on the second one, whose journal goes on by these entries for the same problem and settings, if the condition holds
abbrev pub StaysHeldIf : Seen → Seen → List Entry → Ticket → Snapshot → Type 0 → Type 0
StaysHeldIf old new more t s Condition =
    IsHeld old t s → new.journal ≡ old.journal ++ more → new.plain.problem ≡ old.plain.problem → new.plain.settings ≡ old.plain.settings → Condition → IsHeld new t s

-- the worker has the same entries in both journals
abbrev pub MadeNoEntry : Seen → Seen → ℕ → Type 0
MadeNoEntry old new worker = own new.journal worker ≡ own old.journal worker

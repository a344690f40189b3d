-- The work of several workers on one board.
use Rattle.std.specs.Prelude.{ℕ, ◌≡◌, ◌≤◌, ◌⊎◌, List, [], ◌∷◌, ◌++◌, length, Bool, true, false, ◌||◌, if◌then◌else◌, IsTrue, IsFalse, IsSome, is_none, None, ⊤, Any}
use Rattle.std.specs.List.{list_any}
use Rattle.kb_term.specs.Signature.{Problem}
use Rattle.kb_jobs.specs.Working.{ProposesBy}
use Rattle.mkb_model.specs.Plain.{Plain}
use Rattle.mkb_model.specs.Verdicts.{verdict}
use Rattle.mkb_model.specs.Headline.{TakesAreBy}
use Rattle.mkb_model.specs.DueJobs.{first_job}
use Rattle.mkb_model.specs.Journals.{landed, own, worker_of}
use Rattle.mkb_model.specs.declared.entry.Ticket.{Ticket}
use Rattle.mkb_model.specs.declared.entry.Entry.{Entry}
use Rattle.mkb_model.specs.declared.entry.Entry.TheVariants.{Abandon, Halt}
use Rattle.mkb_model.specs.declared.proposed.Proposed.{Proposed}
use Rattle.mkb_board.specs.Boards.{Seen, IsLegalBoard, has_halt}
use Rattle.mkb_board.specs.Held.{IsHeld}
use Rattle.mkb_board.specs.Takes.{TakesJob, IsFinishedBy}
use Rattle.mkb_board.specs.declared.answers.Taken.{Taken}
use Rattle.mkb_board.specs.declared.answers.Taken.TheVariants.{Job as TakenJob}
use Rattle.mkb_board.specs.declared.answers.Finished.{Finished}
use Rattle.turn_lock.specs.Turn.{IsFrom}
use Rattle.turn_lock.specs.Places.{Locked, Sitting, IsSeatOf}
use Rattle.work_crew.specs.Alone.{IsSameRun}
use Rattle.work_crew.specs.Moments.{moment_at}
use Rattle.work_crew.specs.declared.alone.Crew.{Crew}
use Rattle.work_crew.specs.declared.shared.Assignment.{Assignment}
use Rattle.work_crew.specs.declared.shared.Next.{Next}
use Rattle.work_crew.specs.declared.shared.Next.TheVariants.{Work, Wait, Rest, End}
use Rattle.work_crew.specs.declared.shared.Then.{Then}
use Rattle.work_crew.specs.declared.shared.Then.TheVariants as then
use Rattle.mkb_model.specs.declared.settings.Settings.{Settings}

-- ---- turns

-- the journal goes on by entries of this worker, or of none
abbrev pub Grows : ℕ → Seen → Seen → Type 0
Grows w old new = (mine : List Entry) × (new.journal ≡ old.journal ++ mine) × IsFrom worker_of w mine

-- the journal with a halt
abbrev pub halted : List Entry → List Entry
halted J = if has_halt J then J else J ++ Halt ∷ []

-- a halt was made, if none was made before
pub record IsHalted (old new : Seen) : Type 0 where
  pub plain : new.plain ≡ old.plain
  pub journal : new.journal ≡ halted old.journal

-- the ticket was given back, and a halt made, if none was made before
pub record IsGivenBack (old new : Seen) (t : Ticket) : Type 0 where
  pub plain : new.plain ≡ landed t.number old.plain
  pub journal : new.journal ≡ halted (old.journal ++ Abandon t.worker t.number ∷ [])

-- the ticket was held on an earlier legal board, since which its worker has made no entry
pub record IsHeldSince (s : Seen) (a : Assignment) : Type 0 where
  pub before : Seen
  pub legal : IsLegalBoard before
  pub held : IsHeld before a.ticket a.snapshot
  pub later : List Entry
  pub entered : s.journal ≡ before.journal ++ later
  pub same : IsSameRun before s
  pub of_others : own s.journal a.ticket.worker ≡ own before.journal a.ticket.worker

-- the ticket was ended with what its job proposes by what it read
pub record IsEnded (old new : Seen) (a : Assignment) : Type 0 where
  pub proposal : Proposed
  pub proposed : ProposesBy a.snapshot proposal
  pub answer : Finished
  pub finished : IsFinishedBy old new a.ticket proposal answer

-- what the worker does next is this: it took the first job, or there is none now and none ended, or a verdict stands or a halt was made
abbrev pub IsNext : Seen → Seen → ℕ → Next → Type 0
IsNext old new worker (Work a) = TakesJob old new worker a.ticket a.snapshot
IsNext old new worker (Wait n) = (new ≡ old) × (verdict old.plain ≡ None) × IsFalse (has_halt old.journal) × (first_job old.plain ≡ None) × (n ≡ length old.journal)
IsNext old new worker Rest = ⊥
IsNext old new worker End = (new.plain ≡ old.plain) × (IsSome (verdict new.plain) ⊎ IsTrue (has_halt new.journal))

-- the worker takes the first job, if there is one, or rests, as said
abbrev pub IsAfter : Seen → Seen → ℕ → Then → Next → Type 0
IsAfter old new worker (then.Take c) next = IsNext old new worker next
IsAfter old new worker then.Rest next = (new ≡ old) × (next ≡ Rest)

-- the worker wants to know what the process of its next ticket costs
abbrev pub asks_cost : Then → Bool
asks_cost (then.Take c) = c
asks_cost then.Rest = false

-- the ticket was ended, and this is what its worker does then; or it was given back, the board halted, and its worker ends
abbrev pub EndsAndGoesOn : Seen → Seen → Assignment → Then → Next → Type 0
EndsAndGoesOn old new a t next = ((mid : Seen) × IsEnded old mid a × IsAfter mid new a.ticket.worker t next) ⊎ (IsGivenBack old new a.ticket × (next ≡ End))

-- the moment that is told of a ticket that is worked next is that of the board
abbrev pub TellsMoment : Bool → Seen → Next → Type 0
TellsMoment asked s (Work a) = a.moment ≡ moment_at asked s.plain a.ticket
TellsMoment asked s (Wait n) = ⊤
TellsMoment asked s Rest = ⊤
TellsMoment asked s End = ⊤

-- a ticket that was taken is held, and the worker's own
abbrev pub HoldsTaken : Seen → ℕ → Taken → Type 0
HoldsTaken s worker (TakenJob t snapshot) = IsHeld s t snapshot × (t.worker ≡ worker)
HoldsTaken s worker a = ⊤

-- a ticket that is worked next is held, and the worker's own
abbrev pub HoldsOn : Seen → ℕ → Next → Type 0
HoldsOn s worker (Work a) = IsHeld s a.ticket a.snapshot × (a.ticket.worker ≡ worker)
HoldsOn s worker (Wait n) = ⊤
HoldsOn s worker Rest = ⊤
HoldsOn s worker End = ⊤

-- ---- seats

-- a seat of this lock without the turn, of one of 16 workers
abbrev pub Rests : {P E : Type 0} → Locked P → Sitting P E → Type 0
Rests turns seat = IsSeatOf turns seat × (seat.view.holds ≡ false) × (1 ≤ seat.view.worker) × (seat.view.worker ≤ 16)

-- the seat is of the same worker, and knows the same of the others
abbrev pub IsSameSeat : {P E : Type 0} → Sitting P E → Sitting P E → Type 0
IsSameSeat old new = (new.view.worker ≡ old.view.worker) × (new.view.drawn ≡ old.view.drawn) × (new.view.joined ≡ old.view.joined)

-- the seat of this worker was taken in
abbrev pub HasJoined : {P E : Type 0} → Sitting P E → ℕ → Type 0
HasJoined seat n = Any (λ j. j.worker ≡ n) seat.view.joined

-- what a board is for: its problem and the settings of its run
abbrev pub purpose : Plain → Problem × Settings
purpose b = (b.problem, b.settings)

-- the seat's worker holds the ticket on the board whose history it has seen last
pub record Holds (turns : Locked (Problem × Settings)) (seat : Sitting (Problem × Settings) Entry) (a : Assignment) : Type 0 where
  pub board : Seen
  pub legal : IsLegalBoard board
  pub held : IsHeld board a.ticket a.snapshot
  pub history : board.journal ≡ seat.view.seen
  pub purpose : purpose board.plain ≡ turns.problem
  pub worker : a.ticket.worker ≡ seat.view.worker

-- a ticket that is worked next is held
abbrev pub HoldsNext : Locked (Problem × Settings) → Sitting (Problem × Settings) Entry → Next → Type 0
HoldsNext turns seat (Work a) = Holds turns seat a
HoldsNext turns seat (Wait n) = ⊤
HoldsNext turns seat Rest = ⊤
HoldsNext turns seat End = ⊤

-- ---- the end

-- the entry gives a ticket back, or is a halt
abbrev pub is_leaving : Entry → Bool
is_leaving (Abandon w t) = true
is_leaving Halt = true
is_leaving e = false

-- so many workers ended the work on the problem: a verdict stands, or a halt was made; and it is told exactly whether one of them found no memory
pub record EndsTogether (P : Problem) (n : Settings) (workers : ℕ) (crew : Crew) : Type 0 where
  pub problem : crew.board.plain.problem ≡ P
  pub settings : crew.board.plain.settings ≡ n
  pub legal : IsLegalBoard crew.board
  pub takes : TakesAreBy workers crew.board.journal
  pub halted : verdict crew.board.plain ≡ None → IsTrue (has_halt crew.board.journal)
  pub told : crew.out_of_memory ≡ (is_none (verdict crew.board.plain) || list_any is_leaving crew.board.journal)

-- The work of one worker.
use Rattle.std.specs.Prelude.{ℕ, ◌+◌, ◌≤◌, List, [], ◌∷◌, ◌++◌, ◌≡◌, ◌⊎◌, IsTrue, IsFalse, IsSome, None, true, false}
use Rattle.kb_term.specs.Signature.{Problem}
use Rattle.mkb_model.specs.Verdicts.{verdict}
use Rattle.mkb_model.specs.Journals.{Alone, takes_in_turn, worker_of}
use Rattle.kb_node.specs.declared.job.Job.{Job}
use Rattle.mkb_model.specs.declared.entry.Entry.{Entry}
use Rattle.mkb_model.specs.declared.entry.Entry.TheVariants.{Take, Abandon, Halt}
use Rattle.mkb_model.specs.declared.entry.Ticket.{Ticket}
use Rattle.kb_jobs.specs.declared.working.Snapshot.{Snapshot}
use Rattle.mkb_board.specs.Boards.{Seen, has_halt, IsLegalBoard}
use Rattle.mkb_board.specs.Takes.{TakesJob}
use Rattle.turn_lock.specs.Turn.{IsFrom}
use Rattle.work_crew.specs.declared.alone.Crew.{Crew}
use Rattle.work_crew.specs.declared.alone.Turn.{Turn}
use Rattle.work_crew.specs.declared.alone.Turn.TheVariants.{Over, Went}
use Rattle.mkb_model.specs.declared.settings.Settings.{Settings}

-- nothing is in flight, no halt was made, and each ticket was taken by worker 1 and ended at once
pub record IsInTurn (s : Seen) : Type 0 where
  pub grounded : s.plain.flight ≡ []
  pub no_halt : IsFalse (has_halt s.journal)
  pub in_turn : IsTrue (takes_in_turn s.journal)
  pub of_one : IsFrom worker_of 1 s.journal

-- one commit more was made, within the budget
pub record CommitsOnce (old new : Seen) : Type 0 where
  pub more : new.plain.commits ≡ old.plain.commits + 1
  pub within : new.plain.commits ≤ new.plain.settings.budget

-- what a turn came to: one commit more, or a verdict stands
abbrev pub ComesTo : Seen → Seen → Turn → Type 0
ComesTo old new Went = CommitsOnce old new
ComesTo old new Over = IsSome (verdict new.plain)

-- the new board is for the problem and the settings of the old one
pub record IsSameRun (old new : Seen) : Type 0 where
  pub problem : new.plain.problem ≡ old.plain.problem
  pub settings : new.plain.settings ≡ old.plain.settings

-- worker 1 has just taken this ticket, on a board with nothing in flight
pub record IsJustTaken (s : Seen) (t : Ticket) (snapshot : Snapshot) : Type 0 where
  pub before : Seen
  pub legal : IsLegalBoard before
  pub in_turn : IsInTurn before
  pub takes : TakesJob before s 1 t snapshot

-- no verdict stands, and nothing is in flight
pub record IsAtRest (s : Seen) : Type 0 where
  pub no_verdict : verdict s.plain ≡ None
  pub grounded : s.plain.flight ≡ []

-- no ticket was given back, or the last one of worker 1
abbrev pub IsGivenBackLast : List Entry → Type 0
IsGivenBackLast last = (last ≡ []) ⊎ ((t : ℕ) × (j : Job) × (last ≡ Take 1 t j ∷ Abandon 1 t ∷ []))

-- each entry names worker 1; each ticket was ended at once, but for the last one, which may have been given back
pub record IsByOne (J : List Entry) : Type 0 where
  pub of_one : IsFrom worker_of 1 J
  pub turns : List Entry
  pub in_turn : IsTrue (takes_in_turn turns)
  pub last : List Entry
  pub given_back : IsGivenBackLast last
  pub parts : J ≡ turns ++ last

-- no verdict stands, nothing is in flight, no halt was made, and the entries are those of worker 1 alone
pub record IsStopped (s : Seen) : Type 0 where
  pub at_rest : IsAtRest s
  pub no_halt : IsFalse (has_halt s.journal)
  pub by_one : IsByOne s.journal

-- no memory was found, and the work on the problem was broken off: a halt was made, and each ticket given back
pub record IsBrokenOff (P : Problem) (n : Settings) (s : Seen) : Type 0 where
  pub problem : s.plain.problem ≡ P
  pub settings : s.plain.settings ≡ n
  pub at_rest : IsAtRest s
  pub halted : IsTrue (has_halt s.journal)

-- no memory was found, and worker 1 broke off its work on the problem: its entries alone, its last ticket perhaps given back, and a halt
pub record IsBrokenOffAlone (P : Problem) (n : Settings) (s : Seen) : Type 0 where
  pub problem : s.plain.problem ≡ P
  pub settings : s.plain.settings ≡ n
  pub at_rest : IsAtRest s
  pub entries : List Entry
  pub by_one : IsByOne entries
  pub halted : s.journal ≡ entries ++ Halt ∷ []

-- the journal is that of one worker alone, ended by a verdict; or no memory was found
abbrev pub EndsAlone : Problem → Settings → Crew → Type 0
EndsAlone P n crew = (crew.out_of_memory ≡ false → Alone P n crew.board.journal crew.board.plain) × (crew.out_of_memory ≡ true → IsBrokenOffAlone P n crew.board)

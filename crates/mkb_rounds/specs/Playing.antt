-- A round while it is worked.
use Rattle.std.specs.Prelude.{ℕ, List, [], map, ◌≡◌, ◌≢◌, IsTrue, IsFalse, None, All}
use Rattle.kb_term.specs.Signature.{IsWithinLimits}
use Rattle.mkb_model.specs.Verdicts.{verdict}
use Rattle.mkb_model.specs.Journals.{Moment, IsRun, journal_of}
use Rattle.mkb_model.specs.declared.entry.Ticket.{Ticket}
use Rattle.mkb_board.specs.Boards.{Seen, IsLegalBoard, has_halt}
use Rattle.mkb_board.specs.Held.{IsHeld}
use Rattle.work_crew.specs.declared.shared.Assignment.{Assignment}
use Rattle.mkb_rounds.specs.Rounds.{GoByRounds, is_taking, next_job}

-- the problem is within the limits, and each entry so far is what the round did next
pub record IsByRounds (s : Seen) : Type 0 where
  pub within : IsWithinLimits s.plain.problem
  pub moments : List Moment
  pub run : IsRun s.plain.problem s.plain.settings moments s.plain
  pub journal : journal_of moments ≡ s.journal
  pub by_rounds : GoByRounds moments

-- the tickets
abbrev pub tickets_of : List Assignment → List Ticket
tickets_of round = map (λ (a : Assignment). a.ticket) round

-- these tickets and no others are in flight, in this order, and each is held with what its job reads
pub record AreInHand (s : Seen) (round : List Assignment) : Type 0 where
  pub flight : s.plain.flight ≡ tickets_of round
  pub held : All (λ (a : Assignment). IsHeld s a.ticket a.snapshot) round

-- no verdict stands on the legal board, and these tickets and no others are in flight
pub record IsLeftWith (s : Seen) (round : List Assignment) : Type 0 where
  pub legal : IsLegalBoard s
  pub undecided : verdict s.plain ≡ None
  pub flight : s.plain.flight ≡ tickets_of round

-- between two rounds: nothing is in flight, unless a verdict stands
pub record IsBetweenRounds (s : Seen) : Type 0 where
  pub so_far : IsByRounds s
  pub grounded : verdict s.plain ≡ None → s.plain.flight ≡ []

-- no verdict stands and no halt was made, and the round takes tickets, and has these
pub record IsTakingRound (s : Seen) (round : List Assignment) : Type 0 where
  pub so_far : IsByRounds s
  pub undecided : verdict s.plain ≡ None
  pub unhalted : IsFalse (has_halt s.journal)
  pub taking : IsTrue (is_taking so_far.moments s.plain)
  pub in_hand : AreInHand s round

-- the round takes no more tickets, and these are not ended yet
pub record IsEndingRound (s : Seen) (rest : List Assignment) : Type 0 where
  pub so_far : IsByRounds s
  pub no_more : verdict s.plain ≡ None → rest ≢ [] → next_job so_far.moments s.plain ≡ None
  pub in_hand : AreInHand s rest

-- the rounds have ended: where a verdict stands each entry was what the round did next, and where none stands nothing is in flight
pub record HaveEnded (s : Seen) : Type 0 where
  pub legal : IsLegalBoard s
  pub decided : verdict s.plain ≢ None → IsByRounds s
  pub grounded : verdict s.plain ≡ None → s.plain.flight ≡ []

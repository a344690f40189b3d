-- The journal of rounds: which entry comes next depends on the board alone, and not on how many workers there are.
use Rattle.std.specs.Prelude.{ℕ, ◌+◌, List, [], ◌∷◌, length, Bool, false, ◌&&◌, ◌||◌, nat_lt, if◌then◌else◌, ◌≡◌, IsSome, ⊤}
use Rattle.std.specs.Option.{option_map_or}
use Rattle.std.specs.declared.option.Option.{Option}
use Rattle.std.specs.declared.option.Option.TheVariants.{None}
use Rattle.kb_term.specs.Signature.{Problem, IsWithinLimits}
use Rattle.kb_node.specs.declared.job.Job.{Job}
use Rattle.mkb_model.specs.Plain.{Plain}
use Rattle.mkb_model.specs.DueJobs.{first_job}
use Rattle.mkb_model.specs.Sleeping.{no_members}
use Rattle.mkb_model.specs.Verdicts.{verdict}
use Rattle.mkb_model.specs.Journals.{Moment, Move, takes, ends, move_of, is_take, tickets, IsRun, journal_of}
use Rattle.mkb_model.specs.declared.entry.Ticket.{Ticket}
use Rattle.mkb_model.specs.declared.entry.Entry.{Entry}
use Rattle.mkb_model.specs.declared.settings.Settings.{Settings}

-- how many tickets a round takes at most
abbrev pub max_tickets : ℕ
max_tickets = 8

-- the newest entry is a take
abbrev pub newest_is_take : List Moment → Bool
newest_is_take [] = false
newest_is_take (m ∷ past) = is_take m.entry

-- a round takes tickets until it ends one: none is in flight, or the newest entry is a take
abbrev pub is_taking : List Moment → Plain → Bool
is_taking past b = no_members b.flight || newest_is_take past

-- the job that the round takes next: the first one, while it takes tickets and has fewer than 8
abbrev pub next_job : List Moment → Plain → Option Job
next_job past b = if is_taking past b && nat_lt (length b.flight) max_tickets then first_job b else None

-- the number of the first of the tickets
abbrev pub first_number : List Ticket → ℕ
first_number [] = 0
first_number (t ∷ ts) = t.number

-- what the round does next: worker 1 takes the next job; where there is none the first of the tickets in flight ends
abbrev pub round_move : List Moment → Plain → Move
round_move past b = option_map_or (takes 1 (tickets past + 1)) (next_job past b) (ends (first_number b.flight))

-- each entry is what the round does next on its board
abbrev pub GoByRounds : List Moment → Type 0
GoByRounds [] = ⊤
GoByRounds (m ∷ past) = GoByRounds past × (move_of m.entry ≡ round_move past m.board)

-- the journal of rounds: legal, each entry what the round does next, and ended by a verdict
pub record IsRounds (P : Problem) (s : Settings) (J : List Entry) (c : Plain) : Type 0 where
  pub moments : List Moment
  pub run : IsRun P s moments c
  pub journal : journal_of moments ≡ J
  pub by_rounds : GoByRounds moments
  pub ended : IsSome (verdict c)

-- rounds of the problem, which is within the limits, have the same journal and the same board at its end
abbrev pub HasOneJournal : Problem → Settings → Type 0
HasOneJournal problem settings =
    (journal other : List Entry) (board end : Plain) → IsWithinLimits problem → IsRounds problem settings journal board → IsRounds problem settings other end → (journal ≡ other) × (board ≡ end)

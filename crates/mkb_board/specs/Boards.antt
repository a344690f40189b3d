-- The board with its journal.
use Rattle.std.specs.Prelude.{ℕ, ◌+◌, List, length, filter, Bool, true, false, if◌then◌else◌, ◌≡◌}
use Rattle.std.specs.List.{list_any}
use Rattle.kb_term.specs.Signature.{IsWithinLimits}
use Rattle.mkb_model.specs.Plain.{Plain}
use Rattle.mkb_model.specs.Journals.{After, is_take, is_halt}
use Rattle.mkb_model.specs.declared.entry.Ticket.{Ticket}
use Rattle.mkb_model.specs.declared.entry.Entry.{Entry}
use Rattle.mkb_model.specs.declared.entry.Entry.TheVariants.{Drop}

-- what callers see of a board: the plain board, and the entries that led to it
pub record Seen : Type 0 where
  pub plain : Plain
  pub journal : List Entry

-- the board of a state, the tickets in flight and the journal
abbrev pub seen : Plain → List Ticket → List Entry → Seen
seen state flight journal = record { plain = record state { flight = flight }; journal = journal }

-- the problem is within the limits, and the journal is legal for it and leads to the board
pub record IsLegalBoard (s : Seen) : Type 0 where
  pub within : IsWithinLimits s.plain.problem
  pub after : After s.plain.problem s.plain.settings s.journal s.plain

-- how many tickets the journal takes
abbrev pub takes_in : List Entry → ℕ
takes_in J = length (filter is_take J)

-- a halt is in the journal
abbrev pub has_halt : List Entry → Bool
has_halt J = list_any is_halt J

-- the entry is a drop
abbrev pub is_drop : Entry → Bool
is_drop (Drop w t p) = true
is_drop e = false

-- how many tickets were dropped
abbrev pub drops_in : List Entry → ℕ
drops_in J = length (filter is_drop J)

-- a legal board, with how many tickets were taken and dropped and whether a halt was made
pub record IsBoard (s : Seen) (taken dropped : ℕ) (halted : Bool) : Type 0 where
  pub legal : IsLegalBoard s
  pub taken_is : taken ≡ takes_in s.journal
  pub dropped_is : dropped ≡ drops_in s.journal
  pub halted_is : halted ≡ has_halt s.journal

-- as many entries as may still be made without memory: the end of each ticket in flight, and the halt
abbrev pub owed : ℕ → Bool → ℕ
owed flight halted = if halted then flight else flight + 1

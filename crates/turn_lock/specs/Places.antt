-- What contracts say of a lock and of its seats.
use Rattle.std.specs.Prelude.{◌≡◌, ℕ, ◌<◌, ◌≤◌, Bool, true, false, List, [], ◌∷◌, ◌++◌, length, All, Any, Option, Some, None}
use Rattle.atomic_table.specs.Table.{Me}
use Rattle.atomic_table.specs.Seated.{TableId}
use Rattle.turn_lock.specs.declared.rule.View.{View}
use Rattle.turn_lock.specs.Turn.{StartsWith, own, IsFrom, IsKept, seeing, first_view, drawing, drawn_view, taking}

-- a lock: which one it is, and the problem and budget of its value
pub record Locked (P : Type 0) : Type 0 where
  pub lock : TableId
  pub problem : P
  pub budget : ℕ

-- a seat: which lock it is of, and what it knows
pub record Sitting (P E : Type 0) : Type 0 where
  pub lock : TableId
  pub view : View P E

-- the slot is out with the seat that has the turn
abbrev pub slots_of : {T : Type 0} → Bool → List (ℕ × Option T)
slots_of true = (0, None) ∷ []
slots_of false = []

-- the place of a seat at the table: a living view, with these numbers
abbrev pub IsPlace : {T P E : Type 0} → Me (Option T) (View P E) → ℕ → ℕ → ℕ → Type 0
IsPlace m worker seen drawn =
    (m.0.worker ≡ worker) × (0 < m.0.worker) × (length m.0.seen ≡ seen) × (m.0.drawn ≡ drawn) × (m.1 ≡ slots_of m.0.holds)

module _ {P E : Type 0} where
  -- the seat is of this lock
  abbrev pub IsSeatOf : Locked P → Sitting P E → Type 0
  IsSeatOf turns seat = (seat.lock ≡ turns.lock) × (seat.view.problem ≡ Some turns.problem) × (seat.view.budget ≡ turns.budget)

  -- the first seat of a lock
  abbrev pub first_seat : Locked P → Sitting P E
  first_seat turns = record { lock = turns.lock; view = first_view turns.problem turns.budget }

  -- the seat after it has seen this history, with the turn or without it
  abbrev pub sees : Sitting P E → List E → Bool → Sitting P E
  sees seat log holds = record { lock = seat.lock; view = seeing seat.view log holds }

  -- the first seat after it has drawn a number
  abbrev pub draws : Sitting P E → Sitting P E
  draws seat = record { lock = seat.lock; view = drawing seat.view }

  -- the seat with the number that was drawn
  abbrev pub drawn_seat : Sitting P E → Sitting P E
  drawn_seat seat = record { lock = seat.lock; view = drawn_view seat.view }

  -- the first seat after it has taken in another
  abbrev pub takes_in : Sitting P E → Sitting P E → Sitting P E
  takes_in seat other = record { lock = seat.lock; view = taking seat.view other.view }

  -- a later history: it begins with what the seat has seen, and what follows has no entry of its worker
  abbrev pub IsLater : (E → ℕ) → Sitting P E → List E → Type 0
  IsLater worker seat log = StartsWith log seat.view.seen × (own worker seat.view.worker log ≡ own worker seat.view.worker seat.view.seen)

  -- a history that goes on by entries of the seat's worker, among which those of none may stand
  abbrev pub GoesOn : (E → ℕ) → Sitting P E → List E → Type 0
  GoesOn worker seat log = (mine : List E) × (log ≡ seat.view.seen ++ mine) × IsFrom worker seat.view.worker mine

  -- each number that was drawn after the first was joined
  abbrev pub AllJoined : Sitting P E → Type 0
  AllJoined seat = (n : ℕ) → 1 < n → n ≤ seat.view.drawn → Any (λ j. j.worker ≡ n) seat.view.joined

  -- one history for all seats: what each had seen begins it, each worker's entries stand in it once each and in order, and it has no others
  pub record IsWhole (worker : E → ℕ) (seat : Sitting P E) (log : List E) : Type 0 where
    pub first : IsLater worker seat log
    pub joined : All (IsKept worker log) seat.view.joined
    pub numbered : All (λ e. worker e ≤ seat.view.drawn) log

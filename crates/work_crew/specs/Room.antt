-- How long a journal may become.
use Rattle.std.specs.Prelude.{ℕ, ◌+◌, length}
use Rattle.mkb_board.specs.Boards.{Seen, has_halt, owed}

-- how many entries the journal has once each ticket in flight has ended and a halt was made
abbrev pub room_of : Seen → ℕ
room_of s = length s.journal + owed (length s.plain.flight) (has_halt s.journal)

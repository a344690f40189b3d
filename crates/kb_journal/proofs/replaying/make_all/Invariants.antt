use Rattle.std.proofs.Common.{take}
use Rattle.kb_journal.specs.Replays.{HoldAll, IsAt}
use Rattle.kb_journal.proofs.replaying.make_all.Given as goal

-- the entries so far were made, and the hands hold what is in flight
abbrev pub invariant-loop-k : goal.invariant-loop-k
invariant-loop-k l = record { held : HoldAll l.board l.hands.items; is_at : IsAt l.j l.board (take l.k l.j.lines) }

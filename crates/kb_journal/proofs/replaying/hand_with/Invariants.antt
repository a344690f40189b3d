use Rattle.std.proofs.Common.{◌≡◌, take, Contains}
use Rattle.mkb_model.specs.declared.entry.Ticket.{Ticket}
use Rattle.kb_journal.specs.Replays.{tickets_of}
use Rattle.kb_journal.proofs.replaying.hand_with.Given as goal

-- no hand so far holds the ticket
abbrev pub invariant-loop-hand : goal.invariant-loop-hand
invariant-loop-hand l = (t : Ticket) → Contains (tickets_of (take l.hand-index l.hands)) t → ¬ (t.number ≡ l.number)

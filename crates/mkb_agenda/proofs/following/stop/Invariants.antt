use Rattle.std.proofs.Common.{take}
use Rattle.mkb_agenda.proofs.Brought.{TakesOff}
use Rattle.mkb_agenda.proofs.following.stop.Given as goal

-- the first names are off the list
abbrev pub invariant-loop-i : goal.invariant-loop-i
invariant-loop-i l = TakesOff (take l.i l.names) l.initial.agenda.processes l.agenda.processes

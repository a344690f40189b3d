use Rattle.std.proofs.Common.{take}
use Rattle.mkb_agenda.proofs.Opened.{IsListedUpTo}
use Rattle.mkb_agenda.proofs.opening.agenda_of.Given as goal

-- the processes so far are listed
abbrev pub invariant-loop-i : goal.invariant-loop-i
invariant-loop-i l = IsListedUpTo l.state (take l.i l.state.living) l.agenda.processes

use Rattle.std.proofs.Common.{take}
use Rattle.mkb_model.specs.Plain.{Plain}
use Rattle.mkb_agenda.specs.Following.{AllMayEnd, Brings, IsBetween}
use Rattle.mkb_agenda.proofs.following.look_for_all.Given as goal

-- the first names are brought to the later board
abbrev pub invariant-loop-i : goal.invariant-loop-i
invariant-loop-i l = (b : Plain) → AllMayEnd b l.known.board l.known.node → IsBetween b l.known.board l.initial.agenda.processes → Brings b l.known.board (take l.i l.names.items) l.initial.agenda.processes l.agenda.processes

use Rattle.std.proofs.Common.{◌≡◌, take, true}
use Rattle.kb_label.specs.Names.{Name, has}
use Rattle.mkb_model.specs.Plain.{Plain}
use Rattle.mkb_agenda.specs.Following.{Brings, IsBetween, ComesByRewriting}
use Rattle.mkb_agenda.proofs.following.rewrite.Given as goal

-- the first names are brought to the later board
abbrev pub invariant-loop-i : goal.invariant-loop-i
invariant-loop-i l = (b : Plain) → ((p : Name) → has l.names p ≡ true → ComesByRewriting b l.state l.n l.m p) → IsBetween b l.state l.initial.agenda.processes → Brings b l.state (take l.i l.names) l.initial.agenda.processes l.agenda.processes

use Rattle.std.proofs.Common.{◌≡◌, take, true}
use Rattle.kb_label.specs.Names.{Name, has}
use Rattle.mkb_model.specs.Plain.{Plain}
use Rattle.mkb_agenda.specs.Looking.{ComesFrom}
use Rattle.mkb_agenda.specs.Following.{Brings, IsBetween, jobs_by_overlap}
use Rattle.mkb_agenda.proofs.following.deduce.Given as goal

-- the first names are brought to the later board
abbrev pub invariant-loop-i : goal.invariant-loop-i
invariant-loop-i l = (b : Plain) → ((p : Name) → has l.names p ≡ true → ComesFrom b p l.state p (jobs_by_overlap p l.made.first l.made.second l.made.nodes.now)) → IsBetween b l.state l.initial.agenda.processes → Brings b l.state (take l.i l.names) l.initial.agenda.processes l.agenda.processes

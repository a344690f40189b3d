use Rattle.std.proofs.Common.{take}
use Rattle.mkb_agenda.specs.Looking.{ListsAnew, jobs_on}
use Rattle.mkb_agenda.proofs.Anew.{SameProcesses}
use Rattle.mkb_agenda.proofs.looking.look_at_nodes.Given as goal

-- the jobs so far have been looked at
abbrev pub invariant-loop-i : goal.invariant-loop-i
invariant-loop-i l = record {
  processes : SameProcesses l.initial.agenda.processes l.agenda.processes;
  jobs : ListsAnew l.seen.state.now (jobs_on l.seen.process.now (take l.i l.nodes)) l.initial.agenda.processes l.agenda.processes;
}

use Rattle.std.proofs.Common.{map, take}
use Rattle.mkb_agenda.specs.Looking.{ListsAnew, overlap_of}
use Rattle.mkb_agenda.proofs.Anew.{SameProcesses}
use Rattle.mkb_agenda.proofs.looking.look_at_row.Given as goal

-- the jobs so far have been looked at
abbrev pub invariant-loop-i : goal.invariant-loop-i
invariant-loop-i l = record {
  processes : SameProcesses l.initial.agenda.processes l.agenda.processes;
  jobs : ListsAnew l.seen.state.now (map (overlap_of l.seen.process.now l.rule) (take l.i l.others)) l.initial.agenda.processes l.agenda.processes;
}

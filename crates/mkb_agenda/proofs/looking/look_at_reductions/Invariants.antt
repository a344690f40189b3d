use Rattle.std.proofs.Common.{map, take}
use Rattle.kb_node.specs.declared.job.Job.TheVariants.{Reduce}
use Rattle.mkb_agenda.specs.Looking.{IsNearlyListed, KeepsOthers, ListsAnew, bare_reach_of}
use Rattle.mkb_agenda.proofs.Anew.{SameProcesses}
use Rattle.mkb_agenda.proofs.looking.look_at_reductions.Given as goal

-- the jobs so far have been looked at
abbrev pub invariant-loop-i : goal.invariant-loop-i
invariant-loop-i l = record {
  processes : SameProcesses l.initial.agenda.processes l.agenda.processes;
  others : KeepsOthers l.seen.process.now l.initial.agenda.processes l.agenda.processes;
  jobs : IsNearlyListed l.seen.state.now l.seen.process.now (bare_reach_of l.touched) l.initial.agenda.processes → ListsAnew l.seen.state.now (map (Reduce l.seen.process.now) (take l.i l.seen.nodes.now)) l.initial.agenda.processes l.agenda.processes;
}

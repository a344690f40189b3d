use Rattle.std.proofs.Common.{◌++◌, map, flat_map, take}
use Rattle.mkb_agenda.specs.Looking.{ListsAnew, overlap_of}
use Rattle.mkb_agenda.proofs.Anew.{SameProcesses}
use Rattle.kb_term.specs.declared.origin.RuleRef.{RuleRef}
use Rattle.mkb_agenda.proofs.looking.look_at_overlaps.Given as goal

-- the jobs so far have been looked at
abbrev pub invariant-loop-i : goal.invariant-loop-i
invariant-loop-i l = record {
  processes : SameProcesses l.initial.agenda.processes l.agenda.processes;
  jobs : ListsAnew l.seen.state.now (flat_map (λ (a : RuleRef). map (overlap_of l.seen.process.now a) (l.seen.rules.now ++ l.rules)) (take l.i l.rules)) l.initial.agenda.processes l.agenda.processes;
}

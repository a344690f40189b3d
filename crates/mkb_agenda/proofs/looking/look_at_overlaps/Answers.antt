use Rattle.std.proofs.Common.{sym, subst, List, ◌++◌, map, flat_map, get_or}
use Rattle.std.proofs.lemmas.List.{map-append}
use Rattle.kb_node.specs.declared.job.Job.{Job}
use Rattle.kb_term.specs.declared.origin.RuleRef.{RuleRef}
use Rattle.mkb_agenda.specs.Looking.{ListsAnew, overlap_of}
use Rattle.mkb_agenda.proofs.Anew.{anew_both, anew_flat, anew_whole, same_both, process_kept, rules_all}
use Rattle.mkb_agenda.proofs.looking.look_at_overlaps.Goals as goal

pub look_at_row-requires-clause-others : goal.look_at_row-requires-clause-others
look_at_row-requires-clause-others c k d l = (rules_all c.args.seen.now.state.now c.args.seen.now.process.now c.args.seen.now.rules.now c.requires.seen.rules k d l).0

pub look_at_row-requires-clause-listed : goal.look_at_row-requires-clause-listed
look_at_row-requires-clause-listed c = process_kept c.args.agenda.now.processes c.loop-i.agenda.processes c.loop-i.invariant.processes c.args.seen.now.process.now c.requires.listed

pub returns-in_err-look_at_row-clause-processes : goal.returns-in_err-look_at_row-clause-processes
returns-in_err-look_at_row-clause-processes c = same_both c.args.agenda.now.processes c.loop-i.agenda.processes c.look_at_row.new.agenda.processes c.loop-i.invariant.processes c.look_at_row.ensures.processes

pub look_at_row-requires-in-loop-i-clause-listed : goal.look_at_row-requires-in-loop-i-clause-listed
look_at_row-requires-in-loop-i-clause-listed c = process_kept c.loop-i.agenda.processes c.look_at_row.new.agenda.processes c.look_at_row.ensures.processes c.args.seen.now.process.now (process_kept c.args.agenda.now.processes c.loop-i.agenda.processes c.loop-i.invariant.processes c.args.seen.now.process.now c.requires.listed)

pub returns-in_err-look_at_row-2-clause-processes : goal.returns-in_err-look_at_row-2-clause-processes
returns-in_err-look_at_row-2-clause-processes c = same_both c.args.agenda.now.processes c.look_at_row.new.agenda.processes c.look_at_row-in-loop-i.new.agenda.processes (same_both c.args.agenda.now.processes c.loop-i.agenda.processes c.look_at_row.new.agenda.processes c.loop-i.invariant.processes c.look_at_row.ensures.processes) c.look_at_row-in-loop-i.ensures.processes

pub loop-i-preserved : goal.loop-i-preserved
loop-i-preserved c =
    let b = c.args.seen.now.state.now in
    let p = c.args.seen.now.process.now in
    let rules = c.args.rules.now in
    let all = c.args.seen.now.rules.now in
    let a : RuleRef = get_or rules c.loop-i.i (record { node = 0; dir = 0 }) in
    let mid = c.loop-i.agenda.processes in
    let next = c.look_at_row.new.agenda.processes in
    let new = c.look_at_row-in-loop-i.new.agenda.processes in
    record {
      processes = same_both c.args.agenda.now.processes next new (same_both c.args.agenda.now.processes mid next c.loop-i.invariant.processes c.look_at_row.ensures.processes) c.look_at_row-in-loop-i.ensures.processes;
      jobs = anew_flat (λ (a : RuleRef). map (overlap_of p a) (all ++ rules)) b rules c.loop-i.i (record { node = 0; dir = 0 }) c.args.agenda.now.processes mid new c.loop-i-test.true c.loop-i.invariant.jobs
          (subst {A = List Job} (λ z. ListsAnew b z mid new) (sym (map-append (overlap_of p a) all rules))
          (anew_both b (map (overlap_of p a) all) (map (overlap_of p a) rules) mid next new c.in_ok-look_at_row.ensures.jobs c.in_ok-look_at_row-2.ensures.jobs));
    }

pub returns-clause-jobs : goal.returns-clause-jobs
returns-clause-jobs c =
    let p = c.args.seen.now.process.now in
    let rules = c.args.rules.now in
    subst {A = List RuleRef} (λ (z : List RuleRef). ListsAnew c.args.seen.now.state.now (flat_map (λ (a : RuleRef). map (overlap_of p a) (z ++ rules)) rules) c.args.agenda.now.processes c.loop-i.agenda.processes) c.requires.seen.rules
    (anew_whole (flat_map (λ (a : RuleRef). map (overlap_of p a) (c.args.seen.now.rules.now ++ rules))) c.args.seen.now.state.now rules c.loop-i.i c.args.agenda.now.processes c.loop-i.agenda.processes c.loop-i-test.false c.loop-i.invariant.jobs)

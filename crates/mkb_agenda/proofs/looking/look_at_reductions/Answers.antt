use Rattle.std.proofs.Common.{get_or, map, take}
use Rattle.std.proofs.lemmas.List.Elements.{Contains-get_or}
use Rattle.kb_node.specs.declared.job.Job.TheVariants.{Reduce}
use Rattle.mkb_agenda.specs.Looking.{bare_reach_of}
use Rattle.mkb_agenda.proofs.Anew.{anew_map, anew_none, anew_whole, held_is, others_both, others_same, same_both, process_kept}
use Rattle.mkb_agenda.proofs.Nearly.{nearly_after}
use Rattle.mkb_agenda.proofs.looking.look_at_reductions.Goals as goal

pub loop-i-init : goal.loop-i-init
loop-i-init c = record {
  processes = λ n x r. ((λ h. h), (λ h. h));
  others = others_same c.args.seen.now.process.now c.args.agenda.now.processes;
  jobs = λ near. anew_none c.args.seen.now.state.now c.args.agenda.now.processes;
}

pub look_at_reduction-requires-clause-held : goal.look_at_reduction-requires-clause-held
look_at_reduction-requires-clause-held c =
    let ns = c.args.seen.now.nodes.now in
    held_is c.args.seen.now.state.now c.args.seen.now.process.now ns c.requires.seen.nodes (get_or ns c.loop-i.i (record { 0 = 0 })) (Contains-get_or ns c.loop-i.i (record { 0 = 0 }) c.loop-i-test.true)

pub look_at_reduction-requires-clause-listed : goal.look_at_reduction-requires-clause-listed
look_at_reduction-requires-clause-listed c = process_kept c.args.agenda.now.processes c.loop-i.agenda.processes c.loop-i.invariant.processes c.args.seen.now.process.now c.requires.listed

pub returns-in_err-look_at_reduction-clause-processes : goal.returns-in_err-look_at_reduction-clause-processes
returns-in_err-look_at_reduction-clause-processes c = same_both c.args.agenda.now.processes c.loop-i.agenda.processes c.look_at_reduction.new.agenda.processes c.loop-i.invariant.processes c.look_at_reduction.ensures.processes

pub loop-i-preserved : goal.loop-i-preserved
loop-i-preserved c =
    let b = c.args.seen.now.state.now in
    let p = c.args.seen.now.process.now in
    let ns = c.args.seen.now.nodes.now in
    let ps = c.args.agenda.now.processes in
    let mid = c.loop-i.agenda.processes in
    let new = c.look_at_reduction.new.agenda.processes in
    record {
      processes = same_both ps mid new c.loop-i.invariant.processes c.look_at_reduction.ensures.processes;
      others = others_both p ps mid new c.loop-i.invariant.others c.in_ok-look_at_reduction.ensures.others;
      jobs = λ near. anew_map (Reduce p) b ns c.loop-i.i (record { 0 = 0 }) ps mid new c.loop-i-test.true (c.loop-i.invariant.jobs near)
          (c.in_ok-look_at_reduction.ensures.jobs (nearly_after b p (bare_reach_of c.args.touched.now) (map (Reduce p) (take c.loop-i.i ns)) ps mid (c.loop-i.invariant.jobs near) near));
    }

pub returns-clause-jobs : goal.returns-clause-jobs
returns-clause-jobs c near = anew_whole (map (Reduce c.args.seen.now.process.now)) c.args.seen.now.state.now c.args.seen.now.nodes.now c.loop-i.i c.args.agenda.now.processes c.loop-i.agenda.processes c.loop-i-test.false (c.loop-i.invariant.jobs near)

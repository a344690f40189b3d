use Rattle.std.proofs.Common.{subst, [], ◌∷◌, ◌++◌, cond}
use Rattle.std.proofs.lemmas.Result.{on_ok_weaker}
use Rattle.std.specs.Option.{option_map_or}
use Rattle.kb_label.specs.Names.{Name}
use Rattle.kb_node.specs.declared.job.Job.TheVariants.{Overlap}
use Rattle.kb_term.specs.declared.origin.RuleRef.{RuleRef}
use Rattle.mkb_agenda.specs.Looking.{ListsAnew, jobs_on, overlaps_with, reach_of, reductions_of}
use Rattle.mkb_agenda.proofs.Anew.{anew_both, anew_others, others_both, same_both, process_kept}
use Rattle.mkb_agenda.proofs.Again.{among_own, on_own, one_own}
use Rattle.mkb_agenda.proofs.Nearly.{nearly_all}
use Rattle.mkb_agenda.proofs.looking.look_at_work.Goals as goal

pub look_at_held-requires-clause-listed : goal.look_at_held-requires-clause-listed
look_at_held-requires-clause-listed c = process_kept c.args.agenda.now.processes c.look_at_nodes.new.agenda.processes c.look_at_nodes.ensures.processes c.args.seen.now.process.now c.requires.listed

pub returns-in_err-look_at_held-clause-processes : goal.returns-in_err-look_at_held-clause-processes
returns-in_err-look_at_held-clause-processes c = (same_both c.args.agenda.now.processes c.look_at_nodes.new.agenda.processes c.look_at_held.new.agenda.processes c.look_at_nodes.ensures.processes c.look_at_held.ensures.processes)

pub look_at_overlaps-requires-clause-listed : goal.look_at_overlaps-requires-clause-listed
look_at_overlaps-requires-clause-listed c = process_kept c.args.agenda.now.processes c.look_at_held.new.agenda.processes (same_both c.args.agenda.now.processes c.look_at_nodes.new.agenda.processes c.look_at_held.new.agenda.processes c.look_at_nodes.ensures.processes c.look_at_held.ensures.processes) c.args.seen.now.process.now c.requires.listed

pub returns-in_err-look_at_overlaps-clause-processes : goal.returns-in_err-look_at_overlaps-clause-processes
returns-in_err-look_at_overlaps-clause-processes c = (same_both c.args.agenda.now.processes c.look_at_held.new.agenda.processes c.look_at_overlaps.new.agenda.processes (same_both c.args.agenda.now.processes c.look_at_nodes.new.agenda.processes c.look_at_held.new.agenda.processes c.look_at_nodes.ensures.processes c.look_at_held.ensures.processes) c.look_at_overlaps.ensures.processes)

pub look_at_overlap-requires-clause-listed : goal.look_at_overlap-requires-clause-listed
look_at_overlap-requires-clause-listed c = process_kept c.args.agenda.now.processes c.look_at_overlaps.new.agenda.processes (same_both c.args.agenda.now.processes c.look_at_held.new.agenda.processes c.look_at_overlaps.new.agenda.processes (same_both c.args.agenda.now.processes c.look_at_nodes.new.agenda.processes c.look_at_held.new.agenda.processes c.look_at_nodes.ensures.processes c.look_at_held.ensures.processes) c.look_at_overlaps.ensures.processes) c.args.seen.now.process.now c.requires.listed

pub returns-clause-processes : goal.returns-clause-processes
returns-clause-processes c = same_both c.args.agenda.now.processes c.look_at_overlaps.new.agenda.processes c.look_at_overlap.new.agenda.processes (same_both c.args.agenda.now.processes c.look_at_held.new.agenda.processes c.look_at_overlaps.new.agenda.processes (same_both c.args.agenda.now.processes c.look_at_nodes.new.agenda.processes c.look_at_held.new.agenda.processes c.look_at_nodes.ensures.processes c.look_at_held.ensures.processes) c.look_at_overlaps.ensures.processes) c.look_at_overlap.ensures.processes

pub returns-clause-others : goal.returns-clause-others
returns-clause-others c =
    let b = c.args.seen.now.state.now in
    let p = c.args.seen.now.process.now in
    let t = c.args.touched.now in
    let first = c.look_at_nodes.new.agenda.processes in
    let second = c.look_at_held.new.agenda.processes in
    let third = c.look_at_overlaps.new.agenda.processes in
    let last = c.look_at_overlap.new.agenda.processes in
    on_ok_weaker c.look_at_overlap.result (λ h. others_both p c.args.agenda.now.processes first last
    (anew_others b p (jobs_on p t.nodes.now) c.args.agenda.now.processes first (λ j i. (on_own p t.nodes.now j i).0) c.in_ok-look_at_nodes.ensures.jobs)
    (others_both p first second last c.in_ok-look_at_held.ensures.others
    (others_both p second third last (anew_others b p (overlaps_with b p t.rules.now) second third (λ j i. (among_own b p t.rules.now c.requires.there.rules j i).0) c.in_ok-look_at_overlaps.ensures.jobs)
    (anew_others b p (option_map_or (λ (o : RuleRef × RuleRef). Overlap p o.0 o.1 ∷ []) t.overlap []) third last (λ j i. (one_own b p t.overlap c.requires.there.overlap j i).0) h))))
    c.look_at_overlap.ensures.jobs

pub returns-clause-jobs : goal.returns-clause-jobs
returns-clause-jobs c =
    let b = c.args.seen.now.state.now in
    let p = c.args.seen.now.process.now in
    let t = c.args.touched.now in
    let js = jobs_on p t.nodes.now in
    let ks = cond t.is_wide (reductions_of b p) [] in
    let ls = overlaps_with b p t.rules.now in
    let ms = option_map_or (λ (o : RuleRef × RuleRef). Overlap p o.0 o.1 ∷ []) t.overlap [] in
    on_ok_weaker c.look_at_overlap.result
    (λ h near. subst {A = Name} (λ q. ListsAnew b (jobs_on q t.nodes.now ++ (cond t.is_wide (reductions_of b q) [] ++ (overlaps_with b q t.rules.now ++ option_map_or (λ (o : RuleRef × RuleRef). Overlap q o.0 o.1 ∷ []) t.overlap []))) c.args.agenda.now.processes c.look_at_overlap.new.agenda.processes) c.requires.own
    (anew_both b js (ks ++ (ls ++ ms)) c.args.agenda.now.processes c.look_at_nodes.new.agenda.processes c.look_at_overlap.new.agenda.processes c.in_ok-look_at_nodes.ensures.jobs
    (anew_both b ks (ls ++ ms) c.look_at_nodes.new.agenda.processes c.look_at_held.new.agenda.processes c.look_at_overlap.new.agenda.processes (c.in_ok-look_at_held.ensures.jobs (λ w. nearly_all b p (reach_of t) c.args.agenda.now.processes c.look_at_nodes.new.agenda.processes c.in_ok-look_at_nodes.ensures.jobs (near w)))
    (anew_both b ls ms c.look_at_held.new.agenda.processes c.look_at_overlaps.new.agenda.processes c.look_at_overlap.new.agenda.processes c.in_ok-look_at_overlaps.ensures.jobs h))))
    c.look_at_overlap.ensures.jobs

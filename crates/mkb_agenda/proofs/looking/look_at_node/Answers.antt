use Rattle.std.proofs.Common.{[], ◌∷◌}
use Rattle.std.proofs.lemmas.Result.{on_ok_weaker}
use Rattle.kb_node.specs.declared.job.Job.TheVariants.{Reduce, Orient}
use Rattle.mkb_agenda.proofs.Anew.{anew_both, same_both, process_kept}
use Rattle.mkb_agenda.proofs.looking.look_at_node.Goals as goal

pub look_at-requires-clause-listed : goal.look_at-requires-clause-listed
look_at-requires-clause-listed c = process_kept c.args.agenda.now.processes c.look_at_reducing.new.agenda.processes c.look_at_reducing.ensures.processes c.args.seen.now.process.now c.requires.listed

pub returns-clause-processes : goal.returns-clause-processes
returns-clause-processes c = same_both c.args.agenda.now.processes c.look_at_reducing.new.agenda.processes c.look_at.new.agenda.processes c.look_at_reducing.ensures.processes c.look_at.ensures.processes

pub returns-clause-jobs : goal.returns-clause-jobs
returns-clause-jobs c = on_ok_weaker c.look_at.result (anew_both c.args.seen.now.state.now (Reduce c.args.seen.now.process.now c.args.n ∷ []) (Orient c.args.seen.now.process.now c.args.n ∷ []) c.args.agenda.now.processes c.look_at_reducing.new.agenda.processes c.look_at.new.agenda.processes c.in_ok-look_at_reducing.ensures.jobs) c.look_at.ensures.jobs

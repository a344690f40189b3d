use Rattle.std.proofs.Common.{sym, ap, ◌∙◌, subst, List, [], map, Bool, cond}
use Rattle.std.proofs.lemmas.Result.{on_ok_weaker}
use Rattle.kb_node.specs.declared.job.Job.{Job}
use Rattle.kb_node.specs.declared.job.Job.TheVariants.{Reduce}
use Rattle.mkb_agenda.specs.Looking.{ListsAnew, reductions_of}
use Rattle.mkb_agenda.proofs.Anew.{reduced}
use Rattle.mkb_agenda.proofs.looking.look_at_held.Goals as goal

pub returns-then-touched-clause-jobs : goal.returns-then-touched-clause-jobs
returns-then-touched-clause-jobs c = on_ok_weaker c.look_at_reductions.result (λ h near. subst {A = List Job} (λ z. ListsAnew c.args.seen.now.state.now z c.args.agenda.now.processes c.look_at_reductions.new.agenda.processes)
    (reduced c.args.seen.now.process.now c.args.seen.now.nodes.now ∙ ap (map (λ n. Reduce c.args.seen.now.process.now (record { 0 = n }))) c.requires.seen.nodes ∙ ap (λ (z : Bool). cond z (reductions_of c.args.seen.now.state.now c.args.seen.now.process.now) []) (sym c.if-touched.true)) (h (near c.if-touched.true))) c.look_at_reductions.ensures.jobs

use Rattle.std.proofs.Common.{sym, ◌∙◌}
use Rattle.std.proofs.lemmas.Result.{on_ok_weaker}
use Rattle.kb_node.specs.declared.job.Job.TheVariants.{Reduce}
use Rattle.mkb_model.proofs.Lists.{clash}
use Rattle.mkb_agenda.proofs.Anew.{anew_added}
use Rattle.mkb_agenda.proofs.looking.look_at_reducing.Goals as goal

pub returns-clause-jobs : goal.returns-clause-jobs
returns-clause-jobs c = on_ok_weaker c.add.result (anew_added c.args.seen.now.state.now (Reduce c.args.seen.now.process.now c.args.n) c.weight_of.result c.args.agenda.now.processes c.add.new.self.processes c.weight_of.ensures
    (sym c.is_due.ensures ∙ c.if-not-is_due.false) (λ h. clash (c.is_reducing.ensures.1 (c.weight_of.result, h)) c.if-is_reducing.false)) c.add.ensures.jobs

use Rattle.std.proofs.Common.{sym, ◌∙◌}
use Rattle.std.proofs.lemmas.Result.{on_ok_weaker}
use Rattle.mkb_model.proofs.Lists.{clash}
use Rattle.mkb_agenda.proofs.Anew.{anew_removed, anew_added, anew_had}
use Rattle.mkb_agenda.proofs.looking.look_at.Goals as goal

pub returns-then-not-is_due-clause-jobs : goal.returns-then-not-is_due-clause-jobs
returns-then-not-is_due-clause-jobs c = anew_removed c.args.seen.now.state.now c.args.job.now c.weight_of-weight.result c.args.agenda.now.processes c.remove.new.self.processes c.weight_of-weight.ensures
    (sym c.is_due.ensures ∙ c.if-not-is_due.true) c.remove.ensures.jobs

pub returns-then-has-clause-jobs : goal.returns-then-has-clause-jobs
returns-then-has-clause-jobs c = anew_had c.args.seen.now.state.now c.args.job.now c.weight_of-weight.result c.args.agenda.now.processes c.args.agenda.now.processes c.weight_of-weight.ensures
    (sym c.is_due.ensures ∙ c.if-not-is_due.false) (c.has.ensures.0 c.if-has.true)

pub returns-clause-jobs : goal.returns-clause-jobs
returns-clause-jobs c = on_ok_weaker c.add.result (anew_added c.args.seen.now.state.now c.args.job.now c.weight_of-weight.result c.args.agenda.now.processes c.add.new.self.processes c.weight_of-weight.ensures
    (sym c.is_due.ensures ∙ c.if-not-is_due.false) (λ h. clash (c.has.ensures.1 h) c.if-has.false)) c.add.ensures.jobs

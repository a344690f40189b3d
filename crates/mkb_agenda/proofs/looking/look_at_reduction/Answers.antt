use Rattle.std.proofs.Common.{⊎_elim, refl, sym, ap, ◌∙◌}
use Rattle.std.proofs.lemmas.Result.{on_ok_weaker}
use Rattle.kb_lemmas.proofs.Membership.{none_in}
use Rattle.kb_node.specs.declared.job.Job.TheVariants.{Reduce}
use Rattle.mkb_model.specs.Jobs.{process_of}
use Rattle.mkb_model.specs.Plain.{weight}
use Rattle.mkb_model.proofs.Lists.{clash}
use Rattle.mkb_agenda.proofs.DueJobs.{node_there}
use Rattle.mkb_agenda.proofs.Anew.{anew_had, anew_removed}
use Rattle.mkb_agenda.proofs.looking.look_at_reduction.Goals as goal

pub returns-then-not-is_reducing-clause-jobs : goal.returns-then-not-is_reducing-clause-jobs
returns-then-not-is_reducing-clause-jobs c = on_ok_weaker c.look_whether_gained.result
    (λ h near. h (λ due. ⊎_elim (λ there. clash (c.is_reducing.ensures.1 there) c.if-not-is_reducing.true) (λ gained. gained) (near.gained c.args.n (λ m. none_in m) due))) c.look_whether_gained.ensures.jobs

pub returns-then-not-touched-clause-jobs : goal.returns-then-not-touched-clause-jobs
returns-then-not-touched-clause-jobs c near =
    let b = c.args.seen.now.state.now in
    let job = Reduce c.args.seen.now.process.now c.args.n in
    let there = c.is_reducing.ensures.0 c.if-not-is_reducing.false in
    anew_had b job (weight b job) c.args.agenda.now.processes c.args.agenda.now.processes refl (near.kept c.if-not-touched.true c.args.n (λ m. none_in m) there) there

pub is_due-requires-clause-there : goal.is_due-requires-clause-there
is_due-requires-clause-there c = node_there c.args.seen.now.state.now c.args.seen.now.process.now c.args.n.0 c.requires.held

pub returns-then-is_due-clause-jobs : goal.returns-then-is_due-clause-jobs
returns-then-is_due-clause-jobs c near =
    let b = c.args.seen.now.state.now in
    let job = Reduce c.args.seen.now.process.now c.args.n in
    anew_had b job (weight b job) c.args.agenda.now.processes c.args.agenda.now.processes refl (sym c.is_due.ensures ∙ c.if-is_due.true) (c.is_reducing.ensures.0 c.if-not-is_reducing.false)

pub weight_of-requires : goal.weight_of-requires
weight_of-requires c = node_there c.args.seen.now.state.now c.args.seen.now.process.now c.args.n.0 c.requires.held

pub returns-clause-others : goal.returns-clause-others
returns-clause-others c j w n = ((λ x. ((c.remove.ensures.jobs j w).0 x).0), (λ x. (c.remove.ensures.jobs j w).1 (x, λ d. n (ap process_of d.0))))

pub returns-clause-jobs : goal.returns-clause-jobs
returns-clause-jobs c near = anew_removed c.args.seen.now.state.now (Reduce c.args.seen.now.process.now c.args.n) c.weight_of.result c.args.agenda.now.processes c.remove.new.self.processes c.weight_of.ensures
    (sym c.is_due.ensures ∙ c.if-is_due.false) c.remove.ensures.jobs

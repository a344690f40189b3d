use Rattle.std.proofs.Common.{ℕ, arith, inr, ⊎_elim, sym, ap, subst, ◌∙◌}
use Rattle.std.proofs.lemmas.Result.{on_ok_weaker}
use Rattle.kb_node.specs.declared.job.Job.TheVariants.{Reduce}
use Rattle.mkb_model.specs.Jobs.{process_of}
use Rattle.mkb_moves.proofs.OpenedWork.{bit_below}
use Rattle.mkb_pick.specs.Listings.{HasJob}
use Rattle.mkb_rules.specs.Named.{IsRuleThere}
use Rattle.mkb_agenda.proofs.Again.{all_has}
use Rattle.mkb_agenda.proofs.Anew.{anew_added}
use Rattle.mkb_agenda.proofs.Gained.{gained_due}
use Rattle.mkb_agenda.proofs.looking.look_whether_gained.Goals as goal

pub returns-clause-others : goal.returns-clause-others
returns-clause-others c = on_ok_weaker c.add.result (λ h j w n. ((λ x. ⊎_elim (λ d. absurd (n (ap process_of d.0))) (λ d. d) ((h j w).0 x)), (λ x. (h j w).1 (inr x)))) c.add.ensures.jobs

pub returns-clause-jobs : goal.returns-clause-jobs
returns-clause-jobs c =
    let b = c.args.seen.now.state.now in
    let p = c.args.seen.now.process.now in
    let n = c.args.n in
    let rules = c.args.rules.now in
    on_ok_weaker c.add.result (λ h gains. anew_added b (Reduce p n) c.weight_of.result c.args.agenda.now.processes c.add.new.self.processes c.weight_of.ensures
    (gained_due b p rules n (λ a i. bit_below a.dir (let d = (all_has (IsRuleThere b) rules c.requires.there a i).1 in omega (arith, d))) c.requires.held (sym c.is_gained.ensures ∙ c.if-not-is_gained.false))
    (λ x. c.requires.absent (subst {A = ℕ} (HasJob c.args.agenda.now.processes (Reduce p n)) c.weight_of.ensures x)) h) c.add.ensures.jobs

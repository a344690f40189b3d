use Rattle.std.proofs.Common.{ℕ, subst, IsTrue}
use Rattle.std.proofs.lemmas.Result.{on_ok_weaker}
use Rattle.mkb_model.proofs.Lists.{clash}
use Rattle.mkb_model.specs.Plain.{Plain}
use Rattle.kb_label.specs.Names.{Name}
use Rattle.mkb_pick.specs.Listings.{SetsCost}
use Rattle.mkb_agenda.proofs.Nearly.{nearly_by}
use Rattle.mkb_agenda.specs.Looking.{IsNearlyListed, KeepsOthers, ListsAnew, reach_of, touched_jobs}
use Rattle.mkb_agenda.proofs.Anew.{process_kept}
use Rattle.mkb_agenda.proofs.Again.{not_listed, looked_again, left_others, process_set, touched_own}
use Rattle.mkb_agenda.proofs.looking.look_again.Goals as goal

pub returns-then-not-is_listed-clause-exact : goal.returns-then-not-is_listed-clause-exact
returns-then-not-is_listed-clause-exact c b p l f = not_listed b p c.args.state.now c.args.touched.now.process.now (touched_jobs c.args.state.now c.args.touched.now) c.args.agenda.now.processes (λ h. clash (c.is_listed.ensures.1 h) c.if-not-is_listed.true) l f.comes

pub set_cost-requires : goal.set_cost-requires
set_cost-requires c = process_kept c.args.agenda.now.processes c.look_at_work.new.agenda.processes c.look_at_work.ensures.processes c.args.touched.now.process.now (c.is_listed.ensures.0 c.if-not-is_listed.false)

pub look_at_closing-requires : goal.look_at_closing-requires
look_at_closing-requires c = record {
  listed = process_set c.look_at_work.new.agenda.processes c.set_cost.new.self.processes c.args.touched.now.process.now c.in-Some.cost c.set_cost.ensures.processes
      (process_kept c.args.agenda.now.processes c.look_at_work.new.agenda.processes c.look_at_work.ensures.processes c.args.touched.now.process.now (c.is_listed.ensures.0 c.if-not-is_listed.false));
}

pub returns-clause-exact : goal.returns-clause-exact
returns-clause-exact c =
    let b = c.args.state.now in
    let t = c.args.touched.now in
    let q = t.process.now in
    let ps = c.args.agenda.now.processes in
    let mid = c.look_at_work.new.agenda.processes in
    let next = c.set_cost.new.self.processes in
    let there = c.is_listed.ensures.0 c.if-not-is_listed.false in
    let anew : (IsTrue t.is_wide → IsNearlyListed b q (reach_of t) ps) → ListsAnew b (touched_jobs b t) ps mid = subst {A = Plain} (λ z. (IsTrue t.is_wide → IsNearlyListed z q (reach_of t) ps) → ListsAnew z (touched_jobs z t) ps mid) c.in_ok-seen.ensures.state
    (subst {A = Name} (λ z. (IsTrue t.is_wide → IsNearlyListed c.in_ok-seen.seen.state.now z (reach_of t) ps) → ListsAnew c.in_ok-seen.seen.state.now (touched_jobs c.in_ok-seen.seen.state.now t) ps mid) c.in_ok-seen.ensures.process c.in_ok-look_at_work.ensures.jobs) in
    on_ok_weaker c.look_at_closing.result (λ closing x p l f. looked_again b q (touched_jobs b t) (touched_own b t c.requires) ps mid next c.look_at_closing.new.agenda.processes
    c.look_at_work.ensures.processes (subst {A = ℕ} (λ z. SetsCost mid q z next) c.in-Some.ensures c.set_cost.ensures.processes) c.set_cost.ensures.jobs
    c.look_at_closing.ensures.processes c.look_at_closing.ensures.others closing (anew (λ w. nearly_by x p b q (reach_of t) ps l there f.comes.differs.weights (f.reduces w))) x p there l f.comes) c.look_at_closing.ensures.closing

pub returns-clause-others : goal.returns-clause-others
returns-clause-others c =
    let b = c.args.state.now in
    let t = c.args.touched.now in
    let q = t.process.now in
    let ps = c.args.agenda.now.processes in
    let mid = c.look_at_work.new.agenda.processes in
    let next = c.set_cost.new.self.processes in
    on_ok_weaker c.look_at_closing.result (λ closing x p r n l. left_others b q (touched_jobs b t) (touched_own b t c.requires) ps mid next c.look_at_closing.new.agenda.processes
    c.look_at_work.ensures.processes (subst {A = ℕ} (λ z. SetsCost mid q z next) c.in-Some.ensures c.set_cost.ensures.processes) c.set_cost.ensures.jobs
    c.look_at_closing.ensures.processes c.look_at_closing.ensures.others closing (subst {A = Name} (λ z. KeepsOthers z ps mid) c.in_ok-seen.ensures.process c.in_ok-look_at_work.ensures.others) x p r n l) c.look_at_closing.ensures.closing

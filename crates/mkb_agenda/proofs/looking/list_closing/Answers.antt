use Rattle.std.proofs.Common.{◌↔◌, inr, ⊎_elim, refl, sym, ap, ap₂, subst, Bool, not, ◌&&◌}
use Rattle.std.proofs.lemmas.Result.{on_ok_weaker}
use Rattle.kb_label.specs.Names.{has}
use Rattle.kb_node.specs.declared.job.Job.TheVariants.{Close}
use Rattle.mkb_pick.specs.Listings.{Listing, HasJob}
use Rattle.mkb_agenda.proofs.Again.{on_either, lists_none, lists_close}
use Rattle.mkb_agenda.proofs.looking.list_closing.Goals.{else-is_idle-via-then-is_idle+else-not-is_closed, else-is_idle-via-else-is_idle}
use Rattle.mkb_agenda.proofs.looking.list_closing.Goals as goal

pub add-requires-clause-absent : goal.add-requires-clause-absent
add-requires-clause-absent c = (c.is_idle.ensures.0 c.if-is_idle.true) (Close c.args.process.now) 0 refl

pub returns-then-not-is_closed-clause-others : goal.returns-then-not-is_closed-clause-others
returns-then-not-is_closed-clause-others c j w n = on_either c.add.result c.add.ensures.jobs c.add.ensures.err
    (λ h. ((λ x. ⊎_elim (λ d. absurd (n d.0)) (λ d. d) ((h j w).0 x)), (λ x. (h j w).1 (inr x))))
    (λ e. subst {A = Listing} (λ z. HasJob z.processes j w ↔ HasJob c.args.agenda.now.processes j w) (sym e) ((λ x. x), (λ x. x)))

pub returns-then-not-is_closed-clause-closing : goal.returns-then-not-is_closed-clause-closing
returns-then-not-is_closed-clause-closing c = on_ok_weaker c.add.result
    (λ h absent working lists zero. lists_close c.args.state.now c.args.process.now c.args.agenda.now.processes absent working lists zero c.add.new.self.processes c.is_idle.result c.is_closed.result c.is_idle.ensures c.is_closed.ensures c.if-is_idle.true c.if-not-is_closed.true h)
    c.add.ensures.jobs

pub returns-else-is_idle-clause-closing : goal.returns-else-is_idle-clause-closing
returns-else-is_idle-clause-closing c absent working lists zero = elim c.else-is_idle.branch [
  | else-is_idle-via-then-is_idle+else-not-is_closed w ↦ lists_none c.args.state.now c.args.process.now c.args.agenda.now.processes absent working lists zero c.is_idle.result w.is_closed.result c.is_idle.ensures w.is_closed.ensures (ap₂ (λ (x y : Bool). x && not y) w.if-is_idle.true w.if-not-is_closed.false)
  | else-is_idle-via-else-is_idle w ↦ lists_none c.args.state.now c.args.process.now c.args.agenda.now.processes absent working lists zero c.is_idle.result (has c.args.state.now.closed c.args.process.now) c.is_idle.ensures refl (ap (λ (x : Bool). x && not (has c.args.state.now.closed c.args.process.now)) w.if-is_idle.false)
]

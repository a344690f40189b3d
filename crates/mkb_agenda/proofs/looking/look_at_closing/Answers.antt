use Rattle.std.proofs.Common.{refl}
use Rattle.std.proofs.lemmas.Result.{on_ok_weaker}
use Rattle.kb_node.specs.declared.job.Job.TheVariants.{Close}
use Rattle.mkb_model.proofs.Lists.{clash}
use Rattle.mkb_agenda.proofs.Anew.{process_kept, same_both}
use Rattle.mkb_agenda.proofs.Again.{removed_others, closing_after, lists_busy}
use Rattle.mkb_agenda.proofs.looking.look_at_closing.Goals as goal

pub returns-then-is_idle-clause-closing : goal.returns-then-is_idle-clause-closing
returns-then-is_idle-clause-closing c = on_ok_weaker c.list_closing.result (λ h. h ((c.is_idle.ensures.0 c.if-is_idle.true) (Close c.args.process.now) 0 refl)) c.list_closing.ensures.closing

pub list_closing-requires-then-remove : goal.list_closing-requires-then-remove
list_closing-requires-then-remove c = process_kept c.args.agenda.now.processes c.remove.new.self.processes c.remove.ensures.processes c.args.process.now c.requires.listed

pub returns-then-remove-clause-processes : goal.returns-then-remove-clause-processes
returns-then-remove-clause-processes c = same_both c.args.agenda.now.processes c.remove.new.self.processes c.list_closing-then-remove.new.agenda.processes c.remove.ensures.processes c.list_closing-then-remove.ensures.processes

pub returns-then-remove-clause-others : goal.returns-then-remove-clause-others
returns-then-remove-clause-others c j w n =
    let u = removed_others c.args.process.now c.args.agenda.now.processes c.remove.new.self.processes c.remove.ensures.jobs j w n in
    let v = c.list_closing-then-remove.ensures.others j w n in
    ((λ x. u.0 (v.0 x)), (λ x. v.1 (u.1 x)))

pub returns-then-remove-clause-closing : goal.returns-then-remove-clause-closing
returns-then-remove-clause-closing c = on_ok_weaker c.list_closing-then-remove.result (λ h. closing_after c.args.state.now c.args.process.now c.args.agenda.now.processes c.remove.new.self.processes c.list_closing-then-remove.new.agenda.processes c.remove.ensures.jobs
    (h (λ k. ((c.remove.ensures.jobs (Close c.args.process.now) 0).0 k).1 (refl, refl)))) c.list_closing-then-remove.ensures.closing

pub returns-clause-others : goal.returns-clause-others
returns-clause-others c = removed_others c.args.process.now c.args.agenda.now.processes c.remove.new.self.processes c.remove.ensures.jobs

pub returns-clause-closing : goal.returns-clause-closing
returns-clause-closing c = lists_busy c.args.state.now c.args.process.now c.args.agenda.now.processes c.remove.new.self.processes c.remove.ensures.jobs (λ h. clash (c.remove.ensures.found.1 h) c.if-remove.false) (λ none. clash (c.is_idle.ensures.1 none) c.if-is_idle.false)

use Rattle.std.proofs.Common.{◌∙◌, ◌&&◌, ◌||◌, [], not, ap, ap₂, sym}
use Rattle.std.specs.Prelude.{is_some}
use Rattle.kb_node.specs.declared.job.Job.TheVariants.{Close}
use Rattle.mkb_model.specs.Jobs.{is_free}
use Rattle.std.specs.List.{list_any}
use Rattle.mkb_model.specs.DueJobs.{work_of}
use Rattle.mkb_board.specs.Choosing.{is_choice, jobs_of}
use Rattle.mkb_board.proofs.AnyJob.{some_choice}
use Rattle.mkb_board.proofs.Choices.{choice_closed, choice_over}
use Rattle.mkb_board.proofs.takable.has_choice.Goals as goal
use Rattle.mkb_board.proofs.takable.has_choice.Goals.{then-is_closed-via-then-is_closed, then-is_closed-via-else-is_closed+then-is_over}

pub returns-then-is_closed : goal.returns-then-is_closed
returns-then-is_closed c =
    let b = c.args.state.now in
    let p = c.args.p.now in
    let flight = jobs_of c.args.flight.now in
    elim c.then-is_closed.branch [
      | then-is_closed-via-then-is_closed w ↦ sym (ap is_some (choice_closed b flight p c.requires.rest (sym c.is_closed.ensures ∙ w.if-is_closed.true)))
      | then-is_closed-via-else-is_closed+then-is_over w ↦ sym (ap is_some (choice_over b flight p (sym w.is_over.ensures ∙ w.if-is_over.true)))
    ]

pub returns-then-has_work : goal.returns-then-has_work
returns-then-has_work c =
    let b = c.args.state.now in
    let p = c.args.p.now in
    let flight = jobs_of c.args.flight.now in
    let close = not (list_any (is_choice b []) (work_of b p)) && is_free flight (Close p) in
    sym (some_choice b flight p c.requires.lives (sym c.is_over.ensures ∙ c.if-is_over.false) (sym c.is_closed.ensures ∙ c.if-is_closed.false)
    ∙ ap (λ z. z || close) (sym c.has_work.ensures ∙ c.if-has_work.true))

pub returns-then-not-has_work : goal.returns-then-not-has_work
returns-then-not-has_work c =
    let b = c.args.state.now in
    let p = c.args.p.now in
    let flight = jobs_of c.args.flight.now in
    c.is_free.ensures
    ∙ sym (some_choice b flight p c.requires.lives (sym c.is_over.ensures ∙ c.if-is_over.false) (sym c.is_closed.ensures ∙ c.if-is_closed.false)
    ∙ ap₂ (λ x y. x || (not y && is_free flight (Close p))) (sym c.has_work.ensures ∙ c.if-has_work.false) (sym c.has_work-2.ensures ∙ c.if-not-has_work.true))

pub returns-else-not-has_work : goal.returns-else-not-has_work
returns-else-not-has_work c =
    let b = c.args.state.now in
    let p = c.args.p.now in
    let flight = jobs_of c.args.flight.now in
    ap not c.if-not-has_work.false
    ∙ sym (some_choice b flight p c.requires.lives (sym c.is_over.ensures ∙ c.if-is_over.false) (sym c.is_closed.ensures ∙ c.if-is_closed.false)
    ∙ ap₂ (λ x y. x || (not y && is_free flight (Close p))) (sym c.has_work.ensures ∙ c.if-has_work.false) (sym c.has_work-2.ensures ∙ c.if-not-has_work.false))

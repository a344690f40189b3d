use Rattle.std.proofs.Common.{◌≡◌, ap, ◌∙◌}
use Rattle.std.proofs.lemmas.List.{get_or_default}
use Rattle.mkb_pick.specs.Tasks.{job_of}
use Rattle.mkb_pick.proofs.search.next_job.Goals as goal

pub returns-in_err-choice : goal.returns-in_err-choice
returns-in_err-choice c = rw c.from_residual.ensures (λ n e h. c.in_err-choice.ensures h.0 n e h.1.0 h.1)

pub returns : goal.returns
returns c =
    let names = c.args.queue.now.names.items in
    let choice = c.in_ok-choice.choice in
    let is = c.in_ok-choice.ensures in
    let named : c.index.result.now ≡ is.0 = c.index.ensures ∙ get_or_default names choice.place c.index.result.now is.0 is.2.0 ∙ is.2.1 in (
      is.0,
      is.1,
      choice.task,
      (choice.place, is.2),
      is.5,
      c.job.ensures ∙ ap (λ p. job_of p choice.task.work) named,
      is.6,
      λ m f h r. is.7 h.0 m f h.1.0 h.1 r,
    )

use Rattle.std.proofs.Common.{◌∙◌, ap₂, refl}
use Rattle.std.proofs.lemmas.Result.{IfOk-weaker}
use Rattle.clap.specs.Simple.{with_rule}
use Rattle.mkbtt_words.proofs.command.with_numbers.Goals as goal

pub returns : goal.returns
returns c =
    let with_workers = c.in_ok-arg.ensures.shape c.workers_argument.ensures.local ∙ ap₂ with_rule refl c.workers_argument.ensures.rule in
    let with_budget = c.in_ok-arg-2.ensures.shape c.budget_argument.ensures.local ∙ ap₂ with_rule with_workers c.budget_argument.ensures.rule in
    IfOk-weaker c.arg-3.result _ _ (λ r h. h.shape c.number_argument.ensures.local ∙ ap₂ with_rule with_budget c.number_argument.ensures.rule) c.arg-3.ensures

use Rattle.std.proofs.Common.{◌∙◌, ap₂, refl}
use Rattle.std.proofs.lemmas.Result.{IfOk-weaker}
use Rattle.clap.specs.Simple.{with_rule}
use Rattle.mkbtt_words.proofs.command.with_names.Goals as goal

pub returns : goal.returns
returns c =
    let with_format = c.in_ok-arg.ensures.shape c.name_option.ensures.local ∙ ap₂ with_rule refl c.name_option.ensures.rule in
    IfOk-weaker c.arg-2.result _ _ (λ r h. h.shape c.name_option-2.ensures.local ∙ ap₂ with_rule with_format c.name_option-2.ensures.rule) c.arg-2.ensures

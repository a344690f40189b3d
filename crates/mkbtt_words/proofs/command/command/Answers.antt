use Rattle.std.proofs.Common.{◌∙◌, ◌≡◌, ap, ap₂, true}
use Rattle.std.specs.Prelude.{codes}
use Rattle.std.proofs.lemmas.Result.{IfOk-weaker}
use Rattle.clap.specs.Simple.{app_of, app_of_fields, on_top, with_rule}
use Rattle.mkbtt_words.specs.Command.{budget, command, empty_command, name_rule, number, option_rule, workers}
use Rattle.mkbtt_words.proofs.command.command.Goals as goal

pub returns : goal.returns
unfolding command
returns c =
    let start : app_of c.no_binary_name.result ≡ empty_command =
    ap app_of_fields c.no_binary_name.ensures ∙ ap (on_top (λ s. record s { no_binary_name = true })) c.new.ensures.app in
    let with_mode = c.in_ok-words.ensures.shape c.mode_argument.ensures.local ∙ ap₂ with_rule start c.mode_argument.ensures.rule in
    let with_numbers = c.in_ok-numbers.ensures ∙ ap (λ a. with_rule (with_rule (with_rule a (option_rule workers)) (option_rule budget)) (option_rule number)) with_mode in
    IfOk-weaker c.with_names.result _ _ (λ r h. h ∙ ap (λ a. with_rule (with_rule a (name_rule (codes "to") (codes "answer"))) (name_rule (codes "select") (codes "stated"))) with_numbers) c.with_names.ensures

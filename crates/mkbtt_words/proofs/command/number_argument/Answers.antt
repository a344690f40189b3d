use Rattle.std.proofs.Common.{◌∙◌, ◌≡◌, ap, Some}
use Rattle.std.specs.Prelude.{pos}
use Rattle.clap.specs.declared.builder.value_parser.ValueParser.TheVariants as vp
use Rattle.mkbtt_words.specs.Command.{number, option_rule}
use Rattle.mkbtt_words.proofs.command.number_argument.Goals as goal

pub returns-clause-rule : goal.returns-clause-rule
returns-clause-rule c =
    let bounds : c.range-parser.result ≡ vp.Signed (pos 1) (pos 64) = rw (c.value_parser.ensures, c.new.ensures.start, c.new.ensures.end) at c.range-parser.ensures in
    c.number_option.ensures.rule ∙ ap (λ p. record (option_rule number) { parser = Some p }) bounds

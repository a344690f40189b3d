use Rattle.std.proofs.Common.{◌∙◌}
use Rattle.std.specs.Str.{bytes_eq}
use Rattle.mkbtt_shown.proofs.Words.{any_of_texts}
use Rattle.mkbtt_shown.proofs.manner.is_given.Goals as goal

pub returns : goal.returns
returns c = c.contains.ensures.value ∙ any_of_texts (λ w. bytes_eq w c.args.word.now) c.args.words.now

use Rattle.std.proofs.Common.{arith, refl, ◌∙◌}
use Rattle.std.specs.Str.Parse.{ParsesUnsigned, ExplainsUnsignedError, HasUnsignedDigitsIfOk}
use Rattle.mkbtt_words.specs.Command.{budget, number, workers}
use Rattle.mkbtt_words.proofs.Numbers.{number_read}
use Rattle.mkbtt_words.proofs.words.words_of.Goals as goal

pub returns : goal.returns
returns c =
    let by_8 = number_read workers _ c.requires.workers _ (λ bs r. ParsesUnsigned 8 10 bs r × ExplainsUnsignedError 10 bs r × HasUnsignedDigitsIfOk bs r) 8 c.get_one.result c.get_one.ensures.value (λ u x g. g.0) (omega arith) in
    let by_32 = number_read budget _ c.requires.budget _ (λ bs r. ParsesUnsigned 32 10 bs r × ExplainsUnsignedError 10 bs r × HasUnsignedDigitsIfOk bs r) 32 c.get_one-2.result c.get_one-2.ensures.value (λ u x g. g.0) (omega arith) in
    let by_number = number_read number _ c.requires.number _ (λ bs r. ParsesUnsigned 32 10 bs r × ExplainsUnsignedError 10 bs r × HasUnsignedDigitsIfOk bs r) 32 c.get_one-3.result c.get_one-3.ensures.value (λ u x g. g.0) (omega arith) in
    c.together.ensures ∙ rw (c.mode_in.ensures, by_8, by_32, by_number, c.format_in.ensures, c.selection_in.ensures) refl

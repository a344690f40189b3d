use Rattle.mkbtt_words.proofs.Read.{either_of, read_within}
use Rattle.mkbtt_words.specs.Reading.{words_read}
use Rattle.mkbtt_words.proofs.laws.words_are_read_or_refused.Goals as goal

pub returns-clause-either : goal.returns-clause-either
returns-clause-either c words = either_of (words_read words)

pub returns-clause-within : goal.returns-clause-within
returns-clause-within c words w = read_within words w

-- The hints.
use Rattle.std.specs.Prelude.{ℕ, List, ◌++◌}
use Rattle.kb_text.specs.declared.kind.Kind.{Kind}
use Rattle.mkbtt_shown.specs.Excerpts.{excerpt_of, line_start}
use Rattle.mkbtt_shown.specs.Sentences.{kind_sentence, line_sentence}

-- the line that holds the place of the refusal, and what is said of it
abbrev pub refusal_hint : Kind → List ℕ → ℕ → List ℕ
refusal_hint kind text at = excerpt_of text at ++ kind_sentence kind

-- the line with this number, from 1, and what is said of it
abbrev pub line_hint : List ℕ → ℕ → List ℕ
line_hint text number = excerpt_of text (line_start text number) ++ line_sentence

-- The formats and their names.
use Rattle.std.specs.Prelude.{ℕ, List, [], ◌∷◌, Option, codes}
use Rattle.mkbtt_words.specs.Named.{named}
use Rattle.mkbtt_words.specs.declared.format.Format.{Format}
use Rattle.mkbtt_words.specs.declared.format.Format.TheVariants.{Answer, Trs, Dot}

-- each format under its name
abbrev pub formats : List (List ℕ × Format)
formats = (codes "answer", Answer) ∷ (codes "trs", Trs) ∷ (codes "dot", Dot) ∷ []

abbrev pub format_of : List ℕ → Option Format
format_of = named formats

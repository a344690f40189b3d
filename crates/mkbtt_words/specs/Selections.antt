-- The selections of jobs and their names.
use Rattle.std.specs.Prelude.{ℕ, List, [], ◌∷◌, Option, codes}
use Rattle.mkbtt_words.specs.Named.{named}
use Rattle.mkbtt_words.specs.declared.selection.Selection.{Selection}
use Rattle.mkbtt_words.specs.declared.selection.Selection.TheVariants.{Stated, Size}

-- each selection under its name
abbrev pub selections : List (List ℕ × Selection)
selections = (codes "stated", Stated) ∷ (codes "size", Size) ∷ []

abbrev pub selection_of : List ℕ → Option Selection
selection_of = named selections

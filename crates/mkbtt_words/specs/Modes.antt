-- The modes and their names.
use Rattle.std.specs.Prelude.{ℕ, List, [], ◌∷◌, Option, codes}
use Rattle.mkbtt_words.specs.Named.{named}
use Rattle.mkbtt_words.specs.declared.mode.Mode.{Mode}
use Rattle.mkbtt_words.specs.declared.mode.Mode.TheVariants.{Complete, Rounds, Check, Convert, Reduce, Decide, Simplify, Summary, Journal, Replay, Gen}

-- each mode under its name
abbrev pub modes : List (List ℕ × Mode)
modes = (codes "complete", Complete) ∷ (codes "rounds", Rounds) ∷ (codes "check", Check) ∷ (codes "convert", Convert) ∷ (codes "reduce", Reduce) ∷ (codes "decide", Decide) ∷ (codes "simplify", Simplify) ∷ (codes "summary", Summary) ∷ (codes "journal", Journal) ∷ (codes "replay", Replay)
    ∷ (codes "gen", Gen) ∷ []

abbrev pub mode_of : List ℕ → Option Mode
mode_of = named modes

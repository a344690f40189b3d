-- What the words ask to be shown.
use Rattle.std.specs.Prelude.{ℕ, List, Bool, false, ◌||◌, not, filter, if◌then◌else◌, codes}
use Rattle.std.specs.List.{list_any}
use Rattle.std.specs.Str.{bytes_eq}
use Rattle.mkbtt_shown.specs.declared.manner.Manner.{Manner}
use Rattle.mkbtt_shown.specs.declared.manner.Progress.{Progress}
use Rattle.mkbtt_shown.specs.declared.manner.Progress.TheVariants.{Hidden, Lines, InPlace}

abbrev pub is_among : List ℕ → List (List ℕ) → Bool
is_among word words = list_any (λ w. bytes_eq w word) words

-- a line each second with --progress, else at a terminal one line that is written anew
abbrev pub progress_in : List (List ℕ) → Bool → Progress
progress_in words at_terminal = if is_among (codes "--progress") words then Lines else (if at_terminal then InPlace else Hidden)

-- nothing with --quiet; else progress, and explanations with --explain or at a terminal
abbrev pub manner_of : List (List ℕ) → Bool → Manner
manner_of words at_terminal = if is_among (codes "--quiet") words then record { progress = Hidden; explains = false }
    else record { progress = progress_in words at_terminal; explains = is_among (codes "--explain") words || at_terminal }

-- the word is one of these three
abbrev pub is_of_manner : List ℕ → Bool
is_of_manner word = bytes_eq word (codes "--progress") || (bytes_eq word (codes "--explain") || bytes_eq word (codes "--quiet"))

-- the words but these
abbrev pub others_of : List (List ℕ) → List (List ℕ)
others_of words = filter (λ w. not (is_of_manner w)) words

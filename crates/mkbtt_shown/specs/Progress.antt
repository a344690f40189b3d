-- What is written to show how a run goes on.
use Rattle.std.specs.Prelude.{ℕ, List, [], ◌∷◌, ◌++◌, codes, decimal}
use Rattle.std.specs.Prelude.{Option, Some, None}
use Rattle.kb_io.specs.declared.gate.Moment.{Moment}
use Rattle.mkbtt_shown.specs.declared.manner.Progress.{Progress}
use Rattle.mkbtt_shown.specs.declared.manner.Progress.TheVariants.{Hidden, Lines, InPlace}

-- a number, and what it counts
abbrev pub counted : ℕ → List ℕ → List ℕ
counted n what = decimal n ++ what

-- what a process costs, where it was told
abbrev pub cost_text : Option ℕ → List ℕ
cost_text None = []
cost_text (Some cost) = codes "cost " ++ counted cost (codes ", ")

-- one line without its end
abbrev pub moment_text : Moment → ℕ → List ℕ
moment_text m seconds = codes "mkbtt: " ++ counted m.commits (codes " commits, ") ++ counted m.nodes (codes " nodes, ") ++ counted m.living (codes " processes, ") ++ counted m.awake (codes " awake, ") ++ cost_text m.cost ++ counted seconds (codes " s")

-- a carriage return, and what clears the line of a terminal
abbrev pub clear : List ℕ
clear = 13 ∷ 27 ∷ codes "[K"

-- a line of its own, or the line of a terminal anew
abbrev pub progress_text : Progress → Moment → ℕ → List ℕ
progress_text Hidden m seconds = []
progress_text Lines m seconds = moment_text m seconds ++ 10 ∷ []
progress_text InPlace m seconds = clear ++ moment_text m seconds

-- what ends it: the line of a terminal is cleared
abbrev pub cleared_by : Progress → List ℕ
cleared_by Hidden = []
cleared_by Lines = []
cleared_by InPlace = clear

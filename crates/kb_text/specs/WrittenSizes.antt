-- The depth of arguments as a list.
use Rattle.std.specs.Prelude.{ℕ, max, List, [], ◌∷◌}
use Rattle.kb_text.specs.Grammar.{Written}
use Rattle.kb_text.specs.Problems.{depth_in}

-- the greatest depth of the members
abbrev pub list_depth_in : List Written → ℕ
list_depth_in [] = 0
list_depth_in (t ∷ ts) = max (depth_in t) (list_depth_in ts)

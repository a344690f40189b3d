use Rattle.std.proofs.Common.{ℕ, ◌<◌, get_or}
use Rattle.std.specs.Prelude.{map}
use Rattle.kb_term.specs.Tree.{tree_depth, variable}
use Rattle.kb_term.specs.View.{tree_of}
use Rattle.kb_match.specs.Fitting.{Fits}
use Rattle.kb_match.proofs.fitting.+fits.Given as goal

abbrev pub decreases-fits : goal.decreases-fits
decreases-fits l = tree_depth (tree_of l.pattern.now)

-- each argument so far fits
abbrev pub invariant-loop-i : goal.invariant-loop-i
invariant-loop-i l = (j : ℕ) → j < l.i → Fits (get_or (map tree_of l.patterns) j (variable 0)) (get_or (map tree_of l.subjects) j (variable 0))

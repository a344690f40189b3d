-- Patterns that fit terms.
use Rattle.std.specs.Prelude.{◌≡◌, ⊤}
use Rattle.kb_term.specs.Tree.{Tree, Trees, variable, apply, no_trees, more_trees}

-- the pattern is a variable, or both are applications of one symbol and each argument fits
abbrev mutual
  pub Fits : Tree → Tree → Type 0
  Fits (variable n) t = ⊤
  Fits (apply f ps) (variable n) = ⊥
  Fits (apply f ps) (apply g ts) = (f ≡ g) × FitEach ps ts

  pub FitEach : Trees → Trees → Type 0
  FitEach no_trees no_trees = ⊤
  FitEach no_trees (more_trees t ts) = ⊥
  FitEach (more_trees p ps) no_trees = ⊥
  FitEach (more_trees p ps) (more_trees t ts) = Fits p t × FitEach ps ts

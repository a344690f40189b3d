-- Left sides as strings of marks.
use Rattle.std.specs.Prelude.{List, [], ◌∷◌, ◌++◌, length}
use Rattle.kb_term.specs.Tree.{Tree, Trees, variable, apply, no_trees, more_trees, list_of}
use Rattle.rule_index.specs.declared.mark.Mark.{Mark}
use Rattle.rule_index.specs.declared.mark.Mark.TheVariants.{Any, Apply}

-- a term read from left to right: any for a variable, and a symbol with the number of its arguments
abbrev mutual
  pub marks_of : Tree → List Mark
  marks_of (variable n) = Any ∷ []
  marks_of (apply f ts) = Apply f (length (list_of ts)) ∷ marks_in ts

  pub marks_in : Trees → List Mark
  marks_in no_trees = []
  marks_in (more_trees t ts) = marks_of t ++ marks_in ts

-- Terms whose arguments have numbers that a byte holds.
use Rattle.std.specs.Prelude.{◌≤◌, length, ⊤}
use Rattle.kb_term.specs.Tree.{Tree, Trees, variable, apply, no_trees, more_trees, list_of}

-- no symbol of the term is applied to more than 255 arguments: a position holds each argument's number in a byte
abbrev mutual
  pub HasFewArguments : Tree → Type 0
  HasFewArguments (variable n) = ⊤
  HasFewArguments (apply f ts) = (length (list_of ts) ≤ 255) × HaveFewArguments ts

  pub HaveFewArguments : Trees → Type 0
  HaveFewArguments no_trees = ⊤
  HaveFewArguments (more_trees t ts) = HasFewArguments t × HaveFewArguments ts

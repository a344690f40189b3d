-- Terms that are the same but for variables, tested without a renaming.
use Rattle.std.specs.Prelude.{ℕ, Bool, true, false, cond, not, ◌&&◌, ◌==◌}
use Rattle.kb_term.specs.Tree.{Tree, Trees, variable, apply, no_trees, more_trees}

-- the terms are the same but for variables, and x stands in the first exactly where y stands in the second
abbrev mutual
  pub stands_alike : ℕ → ℕ → Tree → Tree → Bool
  stands_alike x y (variable m) (variable n) = cond (m == x) (n == y) (not (n == y))
  stands_alike x y (variable m) (apply g us) = false
  stands_alike x y (apply f ts) (variable n) = false
  stands_alike x y (apply f ts) (apply g us) = (f == g) && stand_alike x y ts us

  pub stand_alike : ℕ → ℕ → Trees → Trees → Bool
  stand_alike x y no_trees no_trees = true
  stand_alike x y no_trees (more_trees u us) = false
  stand_alike x y (more_trees t ts) no_trees = false
  stand_alike x y (more_trees t ts) (more_trees u us) = stands_alike x y t u && stand_alike x y ts us

-- the terms s and t are the same but for variables, and each variable of s stands in a exactly where the one at its place stands in b
abbrev mutual
  pub is_paired : Tree → Tree → Tree → Tree → Bool
  is_paired a b (variable m) (variable n) = stands_alike m n a b
  is_paired a b (variable m) (apply g us) = false
  is_paired a b (apply f ts) (variable n) = false
  is_paired a b (apply f ts) (apply g us) = (f == g) && are_paired a b ts us

  pub are_paired : Tree → Tree → Trees → Trees → Bool
  are_paired a b no_trees no_trees = true
  are_paired a b no_trees (more_trees u us) = false
  are_paired a b (more_trees t ts) no_trees = false
  are_paired a b (more_trees t ts) (more_trees u us) = is_paired a b t u && are_paired a b ts us

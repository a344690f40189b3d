-- Substitutions whose terms are within the limits.
use Rattle.std.specs.Prelude.{ℕ, ◌≤◌}
use Rattle.kb_term.specs.Tree.{Tree, tree_size, tree_depth}

-- each term of the substitution has at most size 512 and depth 64
pub record IsSmall (m : ℕ → Tree) : Type 0 where
  pub sizes : (n : ℕ) → tree_size (m n) ≤ 512
  pub depths : (n : ℕ) → tree_depth (m n) ≤ 64

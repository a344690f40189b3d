-- The hash of a term, made of its symbol or variable and the hashes of its arguments.
use Rattle.std.specs.Prelude.{ℕ, ◌+◌, ◌*◌, ◌/◌, ◌%◌, ◌^◌}
use Rattle.kb_term.specs.Tree.{Tree, Trees, variable, apply, no_trees, more_trees}

-- one number more in a hash of 32 bits: the upper half of a product
unfoldable pub mix : ℕ → ℕ → ℕ
mix hash n = (((hash + n) * 11400714819323198485) % 2 ^ 64) / 2 ^ 32

-- the hash with which a variable, and that of an application before its arguments
abbrev pub variable_hash : ℕ → ℕ
variable_hash n = mix 0 (2 * n)

abbrev pub symbol_hash : ℕ → ℕ
symbol_hash f = mix 0 (2 * f + 1)

-- the hash of a term, and the hashes of terms mixed into a hash from left to right
abbrev mutual
  pub tree_hash : Tree → ℕ
  tree_hash (variable n) = variable_hash n
  tree_hash (apply f ts) = trees_hash ts (symbol_hash f)

  pub trees_hash : Trees → ℕ → ℕ
  trees_hash no_trees hash = hash
  trees_hash (more_trees t ts) hash = trees_hash ts (mix hash (tree_hash t))

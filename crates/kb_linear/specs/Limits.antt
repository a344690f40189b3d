-- The interpretations and terms whose values the code computes: within 128 bits.
use Rattle.std.specs.Prelude.{ℕ, ◌≤◌, ◌<◌, List, map, All, Vec}
use Rattle.std.specs.declared.alloc.Global.{Global}
use Rattle.kb_term.specs.Tree.{Tree, tree_size, tree_depth, variables_of}
use Rattle.kb_term.specs.Rule.{Rule}
use Rattle.kb_linear.specs.LinearOrder.{Interpretation}
use Rattle.kb_term.specs.declared.limits.TheConstants.{MAX_DEPTH, MAX_SIZE, MAX_VARIABLES}

-- a constant of at most 15, and coefficients from 1 to 3
pub record IsSmallRow (row : ℕ × List ℕ) : Type 0 where
  pub constant : row.0 ≤ 15
  pub coefficients : All (λ c. (1 ≤ c) × (c ≤ 3)) row.1

-- each symbol's numbers are small
abbrev pub IsSmall : Interpretation → Type 0
IsSmall i = All IsSmallRow i

-- variables below 64, and a term of at most size 512 and depth 64
pub record IsMeasurable (t : Tree) : Type 0 where
  pub variables : All (λ n. n < MAX_VARIABLES) (variables_of t)
  pub size : tree_size t ≤ MAX_SIZE
  pub depth : tree_depth t ≤ MAX_DEPTH

-- the interpretation that rows of the program are
abbrev pub interpretation_of : List (ℕ × Vec ℕ Global) → Interpretation
interpretation_of rows = map (λ (row : ℕ × Vec ℕ Global). (row.0, row.1.items)) rows

-- both sides of each rule are measurable
abbrev pub AreMeasurable : List Rule → Type 0
AreMeasurable rules = All (λ (rule : Rule). IsMeasurable rule.left × IsMeasurable rule.right) rules

use Rattle.std.proofs.Common.{ℕ, ◌<◌, ◌≡◌, get_or}
use Rattle.std.specs.Prelude.{map, false}
use Rattle.kb_term.specs.Tree.{tree_depth, variable}
use Rattle.kb_term.specs.View.{tree_of}
use Rattle.kb_rewrite.specs.NormalForm.{HasNoRedex}
use Rattle.kb_rewrite.proofs.system.System.+rewrite_first.Given as goal

abbrev pub decreases-rewrite_first : goal.decreases-rewrite_first
decreases-rewrite_first l = tree_depth (tree_of l.t)

-- the arguments are as before, and there is no redex in those so far
abbrev pub invariant-loop-k : goal.invariant-loop-k
invariant-loop-k l =
    (map tree_of l.items.items ≡ map tree_of l.initial.items.items) × ((j : ℕ) → j < l.k → HasNoRedex l.self false (get_or (map tree_of l.initial.items.items) j (variable 0)))

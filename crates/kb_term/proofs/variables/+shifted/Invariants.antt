use Rattle.std.proofs.Common.{◌≡◌, ◌+◌, ◌<◌, ℕ, length, get_or}
use Rattle.std.specs.Prelude.{map, take}
use Rattle.kb_term.specs.Tree.{apply, variable, trees_of, tree_depth, HasVariablesBelow}
use Rattle.kb_term.specs.Substitution.{rename}
use Rattle.kb_term.specs.View.{tree_of}
use Rattle.kb_term.proofs.variables.+shifted.Given as goal

abbrev pub decreases-shifted : goal.decreases-shifted
decreases-shifted l = tree_depth (tree_of l.t.now)

-- the arguments so far are renamed, and each argument has variables below 64
abbrev pub invariant-loop-argument : goal.invariant-loop-argument
invariant-loop-argument l = record {
  made : map tree_of l.items.items ≡ map (λ u. rename (λ n. n + 64) (tree_of u)) (take l.argument-index l.argument-items);
  whole : rename (λ n. n + 64) (tree_of l.t) ≡ apply l.f.0 (trees_of (map (λ u. rename (λ n. n + 64) (tree_of u)) l.argument-items));
  below : (k : ℕ) → k < length l.argument-items → HasVariablesBelow 64 (get_or (map tree_of l.argument-items) k (variable 0));
}

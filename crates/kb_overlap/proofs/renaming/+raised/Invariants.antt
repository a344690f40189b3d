use Rattle.std.proofs.Common.{◌≡◌, ◌+◌, ◌<◌, ℕ, length, get_or}
use Rattle.std.specs.Prelude.{map, take}
use Rattle.kb_term.specs.Tree.{apply, variable, trees_of, tree_depth, HasVariablesBelow}
use Rattle.kb_term.specs.Substitution.{rename}
use Rattle.kb_term.specs.View.{tree_of}
use Rattle.kb_overlap.proofs.renaming.+raised.Given as goal

abbrev pub decreases-raised : goal.decreases-raised
decreases-raised l = tree_depth (tree_of l.t.now)

-- the arguments so far are renamed, and each argument has variables below 64
abbrev pub invariant-loop-argument : goal.invariant-loop-argument
invariant-loop-argument l = record {
  made : map tree_of l.items.items ≡ map (λ u. rename (λ n. n + l.by) (tree_of u)) (take l.argument-index l.parts);
  whole : rename (λ n. n + l.by) (tree_of l.t) ≡ apply l.f.0 (trees_of (map (λ u. rename (λ n. n + l.by) (tree_of u)) l.parts));
  below : (k : ℕ) → k < length l.parts → HasVariablesBelow 64 (get_or (map tree_of l.parts) k (variable 0));
}

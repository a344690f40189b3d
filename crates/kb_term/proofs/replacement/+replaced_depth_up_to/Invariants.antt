use Rattle.std.proofs.Common.{ℕ, ◌≡◌, ◌-◌, ◌≤◌, ◌<◌, Some, length}
use Rattle.std.specs.Prelude.{map, take, min}
use Rattle.kb_term.specs.Tree.{Tree, list_depth}
use Rattle.kb_term.specs.Position.{replace_at}
use Rattle.kb_term.specs.View.{tree_of}
use Rattle.kb_term.proofs.Replaced.{members, IsReplaced}
use Rattle.kb_term.proofs.replacement.+replaced_depth_up_to.Given as goal

abbrev pub decreases-replaced_depth_up_to : goal.decreases-replaced_depth_up_to
decreases-replaced_depth_up_to l = length l.steps.now

-- the deepest argument of the result so far, as far as the cap
abbrev pub invariant-loop-i : goal.invariant-loop-i
invariant-loop-i l = record {
  bound : (0 < l.cap) × (l.deepest ≤ l.cap - 1);
  counted : (v : Tree) → replace_at (tree_of l.t) l.steps (tree_of l.u) ≡ Some v → l.deepest ≡ min (list_depth (take l.i (members v))) (l.cap - 1);
  replaced : (v : Tree) → replace_at (tree_of l.t) l.steps (tree_of l.u) ≡ Some v → (f : ℕ) × IsReplaced f (map tree_of l.argument-items) l.step l.rest (tree_of l.u) v;
}

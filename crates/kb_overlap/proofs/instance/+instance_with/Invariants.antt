use Rattle.std.proofs.Common.{◌≡◌, Some, length}
use Rattle.std.specs.Prelude.{map, take}
use Rattle.kb_term.specs.Tree.{Tree}
use Rattle.kb_term.specs.Position.{replace_at}
use Rattle.kb_term.specs.Substitution.{instance, substitution_of}
use Rattle.kb_term.specs.View.{tree_of}
use Rattle.kb_term.proofs.Replaced.{members, IsReplaced}
use Rattle.kb_overlap.proofs.instance.+instance_with.Given as goal

abbrev pub decreases-instance_with : goal.decreases-instance_with
decreases-instance_with l = length l.steps.now

-- the arguments of the result so far are made
abbrev pub invariant-loop-i : goal.invariant-loop-i
invariant-loop-i l = record {
  made : (v : Tree) → replace_at (tree_of l.t) l.steps (tree_of l.inner) ≡ Some v → map tree_of l.items.items ≡ take l.i (map (instance (substitution_of l.m)) (members v));
  replaced : (v : Tree) → replace_at (tree_of l.t) l.steps (tree_of l.inner) ≡ Some v → IsReplaced l.f.0 (map tree_of l.parts) l.step l.rest (tree_of l.inner) v;
}

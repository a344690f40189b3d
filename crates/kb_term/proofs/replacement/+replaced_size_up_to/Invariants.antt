use Rattle.std.proofs.Common.{ℕ, ◌≡◌, ◌+◌, ◌≤◌, Some, length}
use Rattle.std.specs.Prelude.{map, sum_by, take, min}
use Rattle.kb_term.specs.Tree.{Tree, tree_size}
use Rattle.kb_term.specs.Position.{replace_at}
use Rattle.kb_term.specs.View.{tree_of}
use Rattle.kb_term.proofs.Replaced.{members, IsReplaced}
use Rattle.kb_term.proofs.replacement.+replaced_size_up_to.Given as goal

abbrev pub decreases-replaced_size_up_to : goal.decreases-replaced_size_up_to
decreases-replaced_size_up_to l = length l.steps.now

-- the arguments of the result so far are counted, as far as the cap
abbrev pub invariant-loop-i : goal.invariant-loop-i
invariant-loop-i l = record {
  bound : l.total ≤ l.cap;
  counted : (v : Tree) → replace_at (tree_of l.t) l.steps (tree_of l.u) ≡ Some v → l.total ≡ min (sum_by tree_size (take l.i (members v)) + 1) l.cap;
  replaced : (v : Tree) → replace_at (tree_of l.t) l.steps (tree_of l.u) ≡ Some v → (f : ℕ) × IsReplaced f (map tree_of l.argument-items) l.step l.rest (tree_of l.u) v;
}

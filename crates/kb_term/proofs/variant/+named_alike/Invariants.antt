use Rattle.std.proofs.Common.{◌≡◌, drop, length}
use Rattle.kb_term.specs.Tree.{tree_eq}
use Rattle.kb_term.specs.Substitution.{rename}
use Rattle.kb_term.specs.Pair.{place_in}
use Rattle.kb_term.specs.View.{tree_of}
use Rattle.kb_term.proofs.Both.{both, same_under}
use Rattle.kb_term.proofs.variant.+named_alike.Given as goal

-- the arguments so far are alike, so the rest decide
abbrev pub invariant-loop-i : goal.invariant-loop-i
invariant-loop-i l = record {
  long : length l.ts-inside.items.items ≡ length l.us-inside.items.items;
  rest : tree_eq (rename (place_in l.forth) (tree_of l.s)) (rename (place_in l.back) (tree_of l.t)) ≡ both (same_under (place_in l.forth) (place_in l.back)) (drop l.i l.ts-inside.items.items) (drop l.i l.us-inside.items.items);
}

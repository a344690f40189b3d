use Rattle.std.proofs.Common.{◌≡◌, drop, length}
use Rattle.kb_term.specs.Paired.{stands_alike}
use Rattle.kb_term.specs.View.{tree_of}
use Rattle.kb_term.proofs.Both.{both}
use Rattle.kb_term.proofs.variant.+alike.Given as goal

-- the arguments so far are alike, so the rest decide
abbrev pub invariant-loop-i : goal.invariant-loop-i
invariant-loop-i l = record {
  long : length l.ts-inside.items.items ≡ length l.us-inside.items.items;
  rest : stands_alike l.x l.y (tree_of l.s) (tree_of l.t) ≡ both (stands_alike l.x l.y) (drop l.i l.ts-inside.items.items) (drop l.i l.us-inside.items.items);
}

use Rattle.std.proofs.Common.{◌≡◌, ◌++◌, take}
use Rattle.mkb_model.specs.Plain.{rules_at}
use Rattle.mkb_board.specs.Shelf.{HoldsRead}
use Rattle.mkb_board.proofs.snapshots.named.push_rules_at.Given as goal

-- the rules of the names so far
abbrev pub invariant-loop-i : goal.invariant-loop-i
invariant-loop-i l = record {
  rules : l.rules.items ≡ l.fn.rules.items ++ rules_at l.state (take l.i l.names);
  shelf : HoldsRead l.state l.shelf;
}

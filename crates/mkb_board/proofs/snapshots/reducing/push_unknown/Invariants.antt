use Rattle.std.proofs.Common.{◌≡◌, ◌++◌, take, length}
use Rattle.mkb_board.specs.Snapshots.{AreWithin, unknown_on, with_names}
use Rattle.mkb_board.proofs.snapshots.reducing.push_unknown.Given as goal

-- those of the names so far
abbrev pub invariant-loop-i : goal.invariant-loop-i
invariant-loop-i l = record {
  names : with_names l.names l.us.items ≡ with_names l.names l.fn.us.items ++ unknown_on l.fn.state l.fn.n.0 (take l.i l.names) l.side;
  within : AreWithin (length l.names) l.us.items;
}

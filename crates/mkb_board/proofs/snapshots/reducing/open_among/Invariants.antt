use Rattle.std.proofs.Common.{◌≡◌, take, filter}
use Rattle.mkb_agenda.specs.Open.{is_open_to}
use Rattle.mkb_board.proofs.snapshots.reducing.open_among.Given as goal

-- those of the rules so far
abbrev pub invariant-loop-i : goal.invariant-loop-i
invariant-loop-i l = l.kept.items ≡ filter (is_open_to l.fn.state l.fn.roles l.fn.n.0) (take l.i l.rules)

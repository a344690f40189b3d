use Rattle.std.proofs.Common.{◌≡◌, length}
use Rattle.mkb_board.specs.Shelf.{IsPutAt}
use Rattle.mkb_board.proofs.shelf.put.Given as goal

-- so far nothing was put, and there is room for so many
abbrev pub invariant-loop : goal.invariant-loop
invariant-loop g l = record {
  same : IsPutAt l.place l.value l.fn.kept.items l.kept.items;
  count : length l.kept.items ≡ l.counter;
}

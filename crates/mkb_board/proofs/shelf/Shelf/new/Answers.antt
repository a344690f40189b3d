use Rattle.std.proofs.Common.{refl}
use Rattle.mkb_board.proofs.Kept.{holds_none}
use Rattle.mkb_board.proofs.shelf.Shelf.new.Goals as goal

pub returns : goal.returns
returns g c = holds_none c _ g.new.ensures.items refl g.new-2.ensures.items

use Rattle.std.proofs.Common.{◌∙◌, Some, ap, sym}
use Rattle.mkb_board.proofs.Kept.{holds_pair}
use Rattle.mkb_board.proofs.shelf.Shelf.keep_pair.Goals as goal

pub returns : goal.returns
returns c = λ b h e. record {
  each = h.each;
  last = h.last;
  pairs = holds_pair b c.args.self.now c.args.n.0 c.in_ok-copy.copy c.put.new.kept.items c.put.ensures (e ∙ ap Some (sym c.in_ok-copy.ensures.cases)) h;
}

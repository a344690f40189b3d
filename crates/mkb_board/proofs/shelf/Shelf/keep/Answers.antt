use Rattle.std.proofs.Common.{ℕ, ◌∙◌, Some, ap, subst, sym}
use Rattle.mkb_board.specs.Shelf.{IsPutAt}
use Rattle.mkb_board.proofs.Kept.{holds_with}
use Rattle.mkb_board.proofs.shelf.Shelf.keep.Goals as goal

pub returns : goal.returns
returns c = λ b h e. record {
  each =
      holds_with b c.args.self.now c.args.a c.in_ok-copy.copy c.put.new.kept.items c.requires
      (subst {A = ℕ} (λ i. IsPutAt i c.in_ok-copy.copy c.args.self.now.rules.items c.put.new.kept.items) c.place_of.ensures c.put.ensures)
      (e ∙ ap Some (sym c.in_ok-copy.ensures.cases)) h;
  last = h.last;
  pairs = h.pairs;
}

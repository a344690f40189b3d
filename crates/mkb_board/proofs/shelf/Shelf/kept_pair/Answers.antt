use Rattle.std.proofs.Common.{◌≡◌, ◌∙◌, List, Option, Some, ap, length, refl, sym}
use Rattle.std.specs.Prelude.{slice_get}
use Rattle.std.proofs.lemmas.Option.{slice_get_read}
use Rattle.kb_term.specs.Pair.{Pair}
use Rattle.mkb_board.proofs.shelf.Shelf.kept_pair.Goals as goal

pub returns-in_ok-copy-in-Some-Some : goal.returns-in_ok-copy-in-Some-Some
returns-in_ok-copy-in-Some-Some c = λ b h.
    let read = c.deref.result.now in
    let n = c.args.n.0 in
    let at = c.in-Some-Some.ensures.lookup in
    let kept : slice_get c.args.self.now.pairs.items n ≡ Some (Some c.in-Some-Some.pair) =
    ap (λ (z : List (Option Pair)). slice_get z n) (sym c.deref.ensures.value) ∙ slice_get_read read (length read) n c.in-Some-Some.field-0.now refl at.3.0 at.1 ∙ ap Some c.in-Some-Some.field-0-is in
    h.pairs n c.in-Some-Some.pair kept ∙ ap Some (sym c.in_ok-copy-in-Some-Some.ensures.cases)

use Rattle.std.proofs.Common.{subst, sym}
use Rattle.mkb_board.specs.Boards.{Seen}
use Rattle.work_crew.specs.Together.{IsHeldSince}
use Rattle.work_crew.proofs.Holding.{held_since}
use Rattle.work_crew.proofs.together.end_one.Goals as goal

pub end_and_next-next-requires-clause-held : goal.end_and_next-next-requires-clause-held
end_and_next-next-requires-clause-held g c =
    let a = c.args.assignment.now in
    subst {A = Seen} (λ s. IsHeldSince s a) (sym c.deref_mut.ensures.value) (held_since c.args.place.now.turns c.args.seat.now a c.enter-board.result.value c.requires.holds c.enter-board.ensures.later c.enter-board.ensures.fits.0)

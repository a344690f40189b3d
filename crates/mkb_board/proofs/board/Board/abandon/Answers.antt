use Rattle.std.proofs.Common.{arith, subst, refl, sym, vec_len}
use Rattle.std.specs.Prelude.{Contains}
use Rattle.mkb_board.specs.Boards.{Seen}
use Rattle.mkb_board.proofs.Growing.{abandon_board, after_push, owed_less, owed_fewer}
use Rattle.mkb_board.proofs.board.Board.abandon.Goals as goal

pub invariant_of-self : goal.invariant_of-self
invariant_of-self c =
    let flying : Contains c.self.inside.flight.items c.args.ticket.now = subst {A = Seen} (λ z. Contains z.plain.flight c.args.ticket.now) (sym c.self.view_is) c.requires in
    let fewer = c.land.ensures.fewer c.args.ticket.now flying refl in
    let ok = c.push.ensures.succeeds (omega (arith, c.self.invariant.1, fewer, owed_less (vec_len c.self.inside.flight) c.self.inside.halted)) in
    let items = after_push c.push.result _ _ _ ok c.push.ensures.items in
    let len = after_push c.push.result _ _ _ ok c.push.ensures.len in (
      abandon_board c.self.inside.state c.self.inside.flight.items c.land.new.flight.items c.self.inside.journal.items c.push.new.self.items c.self.inside.taken c.self.inside.dropped c.self.inside.halted c.args.ticket.now c.self.invariant.0 flying (rw (c.land.ensures.items) refl) items,
      omega (arith, c.push.ensures.capacity, len, c.self.invariant.1, owed_fewer (vec_len c.land.new.flight) (vec_len c.self.inside.flight) c.self.inside.halted fewer),
      c.self.invariant.2,
      c.self.invariant.3,
      c.self.invariant.4,
      c.self.invariant.5,
      c.self.invariant.6,
    )

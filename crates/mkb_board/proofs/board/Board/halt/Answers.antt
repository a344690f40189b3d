use Rattle.std.proofs.Common.{◌+◌, ◌≤◌, arith, subst, vec_len, vec_capacity, Bool}
use Rattle.mkb_board.specs.Boards.{seen, IsBoard, owed}
use Rattle.mkb_board.proofs.Growing.{halt_board, after_push}
use Rattle.mkb_board.proofs.board.Board.halt.Goals as goal

pub invariant_of-self : goal.invariant_of-self
invariant_of-self c =
    let h = subst {A = Bool} (λ z. IsBoard (seen c.self.inside.state c.self.inside.flight.items c.self.inside.journal.items) c.self.inside.taken c.self.inside.dropped z) c.if-self.false c.self.invariant.0 in
    let room : vec_len c.self.inside.journal + (vec_len c.self.inside.flight + 1) ≤ vec_capacity c.self.inside.journal = subst {A = Bool} (λ z. vec_len c.self.inside.journal + owed (vec_len c.self.inside.flight) z ≤ vec_capacity c.self.inside.journal) c.if-self.false c.self.invariant.1 in
    let ok = c.push.ensures.succeeds (omega arith) in
    let items = after_push c.push.result _ _ _ ok c.push.ensures.items in
    let len = after_push c.push.result _ _ _ ok c.push.ensures.len in
    (halt_board c.self.inside.state c.self.inside.flight.items c.self.inside.journal.items c.push.new.self.items c.self.inside.taken c.self.inside.dropped h items, omega (arith, c.push.ensures.capacity, len, room), c.self.invariant.2, c.self.invariant.3, c.self.invariant.4, c.self.invariant.5, c.self.invariant.6)

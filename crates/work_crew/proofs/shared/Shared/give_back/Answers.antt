use Rattle.std.proofs.Common.{sym, ap, subst, arith, length}
use Rattle.mkb_board.specs.Boards.{Seen}
use Rattle.work_crew.specs.Together.{Grows, IsHeldSince}
use Rattle.work_crew.proofs.Growing.{given_back, grows_given_back}
use Rattle.work_crew.proofs.Holding.{held_now}
use Rattle.work_crew.proofs.Rooms.{room_given_back}
use Rattle.work_crew.proofs.shared.Shared.give_back.Goals as goal

pub abandon-requires : goal.abandon-requires
abandon-requires c = (held_now c.self.inside.board c.args.assignment.now c.self.invariant.0 (subst {A = Seen} (λ s. IsHeldSince s c.args.assignment.now) (sym c.self.view_is) c.requires.held)).flying

pub invariant_of-self : goal.invariant_of-self
invariant_of-self c =
    let a = c.args.assignment.now in
    let flying = (held_now c.self.inside.board a c.self.invariant.0 (subst {A = Seen} (λ s. IsHeldSince s a) (sym c.self.view_is) c.requires.held)).flying in
    let room = room_given_back c.self.inside.board c.abandon.new.self c.halt.new.self a.ticket flying c.abandon.ensures.plain c.abandon.ensures.journal c.halt.ensures.plain c.halt.ensures.journal in
    (c.journal.ensures.legal, ap length c.journal.ensures.journal, omega (arith, room, c.self.invariant.2), c.self.invariant.3)

pub returns-clause-grows : goal.returns-clause-grows
returns-clause-grows c =
    let t = c.args.assignment.now.ticket in
    subst {A = Seen} (λ s. Grows t.worker s c.halt.new.self) c.self.view_is
    (grows_given_back c.self.inside.board c.halt.new.self t (given_back c.self.inside.board c.abandon.new.self c.halt.new.self t c.abandon.ensures.plain c.abandon.ensures.journal c.halt.ensures.plain c.halt.ensures.journal)).0

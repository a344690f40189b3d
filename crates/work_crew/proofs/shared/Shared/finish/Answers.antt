use Rattle.std.proofs.Common.{sym, ap, subst, arith, length}
use Rattle.mkb_board.specs.Boards.{Seen}
use Rattle.work_crew.specs.Alone.{IsSameRun}
use Rattle.work_crew.specs.Together.{Grows, IsHeldSince}
use Rattle.work_crew.proofs.Growing.{grows_ended}
use Rattle.work_crew.proofs.Holding.{held_now, proposed_now}
use Rattle.work_crew.proofs.Rooms.{room_ended}
use Rattle.work_crew.proofs.shared.Shared.finish.Goals as goal

pub finish-requires-clause-flying : goal.finish-requires-clause-flying
finish-requires-clause-flying c = (held_now c.self.inside.board c.args.assignment.now c.self.invariant.0 (subst {A = Seen} (λ s. IsHeldSince s c.args.assignment.now) (sym c.self.view_is) c.requires.held)).flying

pub finish-requires-clause-proposed : goal.finish-requires-clause-proposed
finish-requires-clause-proposed c = proposed_now c.self.inside.board c.args.assignment.now c.args.proposal c.self.invariant.0 (subst {A = Seen} (λ s. IsHeldSince s c.args.assignment.now) (sym c.self.view_is) c.requires.held) c.requires.proposed

pub invariant_of-self : goal.invariant_of-self
invariant_of-self c =
    let a = c.args.assignment.now in
    let flying = (held_now c.self.inside.board a c.self.invariant.0 (subst {A = Seen} (λ s. IsHeldSince s a) (sym c.self.view_is) c.requires.held)).flying in
    let room = room_ended c.self.inside.board c.finish.new.self a.ticket c.args.proposal c.finish.result flying c.finish.ensures.ok c.finish.ensures.err in
    (c.journal.ensures.legal, ap length c.journal.ensures.journal, omega (arith, room, c.self.invariant.2), c.self.invariant.3)

pub returns-clause-grows : goal.returns-clause-grows
returns-clause-grows c =
    let t = c.args.assignment.now.ticket in
    subst {A = Seen} (λ s. Grows t.worker s c.finish.new.self) c.self.view_is (grows_ended c.self.inside.board c.finish.new.self t c.args.proposal c.finish.result c.finish.ensures.ok c.finish.ensures.err).0

pub returns-clause-same : goal.returns-clause-same
returns-clause-same c =
    let t = c.args.assignment.now.ticket in
    subst {A = Seen} (λ s. IsSameRun s c.finish.new.self) c.self.view_is (grows_ended c.self.inside.board c.finish.new.self t c.args.proposal c.finish.result c.finish.ensures.ok c.finish.ensures.err).1

use Rattle.std.proofs.Common.{◌≡◌, sym, subst, arith}
use Rattle.mkb_rounds.proofs.Playing.{flying_at, gives_one, gives_past}
use Rattle.mkb_rounds.proofs.taking.give_back.Goals as goal

pub abandon-requires : goal.abandon-requires
abandon-requires c = flying_at c.loop-assignment.board c.args.tickets.now c.loop-assignment.assignment-index c.assignment-item.result (omega (arith, c.loop-assignment-test.true)) c.assignment-item.is c.loop-assignment.invariant.0

pub loop-assignment-preserved : goal.loop-assignment-preserved
loop-assignment-preserved c =
    gives_one c.args.board.now c.loop-assignment.board c.abandon.new.self c.args.tickets.now c.loop-assignment.assignment-index c.assignment-item.result (omega (arith, c.loop-assignment-test.true)) c.assignment-item.is c.loop-assignment.invariant c.abandon.ensures.plain c.abandon.ensures.journal

pub returns-clause-left : goal.returns-clause-left
returns-clause-left c = gives_past c.loop-assignment.board c.args.tickets.now c.loop-assignment.assignment-index (omega (arith, c.loop-assignment-test.false)) c.loop-assignment.invariant.0

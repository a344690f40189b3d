use Rattle.std.proofs.Common.{length, ap, arith}
use Rattle.mkb_board.proofs.Readable.{few_on, ordered_on, sleepers_on}
use Rattle.mkb_board.proofs.Sleepers.{sleepers_few}
use Rattle.mkb_board.proofs.board.Board.asleep.Goals as goal

pub overflow_cast-result : goal.overflow_cast-result
overflow_cast-result c =
    let b = c.self.inside.state in
    let legal = c.self.invariant.0.legal in
    let few = sleepers_few b (ordered_on b c.self.inside.flight.items c.self.inside.journal.items legal) (sleepers_on b c.self.inside.flight.items c.self.inside.journal.items legal) in
    let most = few_on b c.self.inside.flight.items c.self.inside.journal.items legal in
    omega (arith, few, most, ap length c.sleepers.ensures)

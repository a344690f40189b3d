use Rattle.std.proofs.Common.{rules}
use Rattle.mkb_board.proofs.Held.{held_proposes}
use Rattle.mkb_rounds.proofs.ending.end_ticket.Goals as goal

pub finish-requires-clause-proposed : goal.finish-requires-clause-proposed
finish-requires-clause-proposed c = held_proposes c.args.board.now c.args.assignment.now.ticket c.args.assignment.now.snapshot _ c.requires.held (search rules)

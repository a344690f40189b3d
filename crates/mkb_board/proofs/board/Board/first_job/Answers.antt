use Rattle.mkb_board.proofs.AtRest.{legal_rest}
use Rattle.mkb_board.proofs.board.Board.first_job.Goals as goal

pub has_first-requires : goal.has_first-requires
has_first-requires c = legal_rest c.self.inside.state c.self.inside.flight.items c.self.inside.journal.items c.self.invariant.0.legal

use Rattle.std.proofs.Common.{◌≡◌, Ok}
use Rattle.mkb_board_tests.proofs.tests.finish.Goals as goal

pub finish-requires-clause-proposed : goal.finish-requires-clause-proposed
finish-requires-clause-proposed g c =
    let is : c.work.result ≡ Ok c.expect-proposal.result = cc in
    let proposes = rw is at c.work.ensures in
    c.held_tickets_stay.ensures.proposes c.args.board.now c.args.hand.now.ticket c.args.hand.now.snapshot c.expect-proposal.result c.requires proposes

pub returns : goal.returns
returns g c = λ u r k d.
    c.held_tickets_stay.ensures.after_finish c.args.board.now c.finish.new.self c.args.hand.now.ticket c.expect-proposal.result c.in-Ok.finished u r c.in-Ok.ensures.ok d k

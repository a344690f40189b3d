use Rattle.std.proofs.Common.{◌≡◌, Ok}
use Rattle.mkb_board.specs.declared.answers.Taken.TheVariants.{Halted}
use Rattle.mkb_board_tests.proofs.tests.halted.Goals as goal

pub returns : goal.returns
returns g c = λ t s k.
    let is : c.take.result ≡ Ok Halted = cc in
    let takes = rw is at c.take.ensures.ok in
    c.held_tickets_stay.ensures.after_take c.args.board.now c.take.new.self 16 Halted t s takes k

use Rattle.std.proofs.Common.{◌≡◌, Ok}
use Rattle.mkb_board.specs.declared.answers.Taken.TheVariants.{Idle}
use Rattle.mkb_board_tests.proofs.tests.idle.Goals as goal

pub returns : goal.returns
returns g c = λ t s k.
    let is : c.take.result ≡ Ok (Idle c.in-Idle.flying) = cc in
    let takes = rw is at c.take.ensures.ok in
    c.held_tickets_stay.ensures.after_take c.args.board.now c.take.new.self 16 (Idle c.in-Idle.flying) t s takes k

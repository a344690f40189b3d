use Rattle.std.proofs.Common.{◌≡◌, Ok}
use Rattle.mkb_board.specs.declared.answers.Taken.TheVariants.{Job}
use Rattle.mkb_board_tests.proofs.tests.take.Goals as goal

pub returns-clause-held : goal.returns-clause-held
returns-clause-held g c =
    let is : c.take.result ≡ Ok (Job c.in-Job.ticket c.in-Job.snapshot) = cc in
    let takes = rw is at c.take.ensures.ok in
    c.held_tickets_stay.ensures.taken c.args.board.now c.take.new.self c.args.worker c.in-Job.ticket c.in-Job.snapshot c.journal_is_legal.ensures takes

pub returns-clause-stays : goal.returns-clause-stays
returns-clause-stays g c = λ u r k.
    let is : c.take.result ≡ Ok (Job c.in-Job.ticket c.in-Job.snapshot) = cc in
    let takes = rw is at c.take.ensures.ok in
    c.held_tickets_stay.ensures.after_take c.args.board.now c.take.new.self c.args.worker (Job c.in-Job.ticket c.in-Job.snapshot) u r takes k

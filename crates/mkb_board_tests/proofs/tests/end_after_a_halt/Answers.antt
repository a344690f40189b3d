use Rattle.mkb_board_tests.proofs.tests.end_after_a_halt.Goals as goal

pub commit-requires : goal.commit-requires
commit-requires g c =
    let t = c.take_this-hand.result.ticket in
    let s = c.take_this-hand.result.snapshot in
    c.halted.ensures t s (c.halt-2.ensures t s (c.halt.ensures t s c.take_this-hand.ensures.held))

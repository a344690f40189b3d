use Rattle.mkb_board_tests.proofs.tests.take_both.Goals as goal

pub returns-clause-first : goal.returns-clause-first
returns-clause-first g c = c.take_this-second.ensures.stays c.take_this-first.result.ticket c.take_this-first.result.snapshot c.take_this-first.ensures.held

pub returns-clause-stays : goal.returns-clause-stays
returns-clause-stays g c = λ t s k. c.take_this-second.ensures.stays t s (c.take_this-first.ensures.stays t s k)

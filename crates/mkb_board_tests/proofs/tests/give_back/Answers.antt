use Rattle.mkb_board_tests.proofs.tests.give_back.Goals as goal

pub abandon-requires : goal.abandon-requires
abandon-requires g c = c.take_this-hand.ensures.held.flying

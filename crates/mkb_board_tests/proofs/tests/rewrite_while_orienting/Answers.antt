use Rattle.std.proofs.Common.{arith}
use Rattle.mkb_board_tests.proofs.tests.rewrite_while_orienting.Goals as goal

pub drop_for-requires : goal.drop_for-requires
drop_for-requires g c =
    c.commit.ensures c.take_both-hands.result.second.ticket c.take_both-hands.result.second.snapshot c.take_both-hands.ensures.second
    (λ e. omega (arith, e, c.take_both-hands.ensures.number, c.take_both-hands.ensures.next))

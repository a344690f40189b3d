use Rattle.std.proofs.Common.{arith}
use Rattle.mkb_board_tests.proofs.tests.fork_while_deducing.Goals as goal

pub commit-requires : goal.commit-requires
commit-requires g c = c.idle.ensures c.take_both-hands.result.first.ticket c.take_both-hands.result.first.snapshot c.take_both-hands.ensures.first

pub commit-requires-2 : goal.commit-requires-2
commit-requires-2 g c =
    c.commit.ensures c.take_both-hands.result.second.ticket c.take_both-hands.result.second.snapshot
    (c.idle.ensures c.take_both-hands.result.second.ticket c.take_both-hands.result.second.snapshot c.take_both-hands.ensures.second)
    (λ e. omega (arith, e, c.take_both-hands.ensures.number, c.take_both-hands.ensures.next))

use Rattle.std.proofs.Common.{arith}
use Rattle.mkb_board_tests.proofs.tests.compose_while_overlapping.Goals as goal

pub commit-requires : goal.commit-requires
commit-requires g c = c.take_both-hands.ensures.stays c.take_this-reduce.result.ticket c.take_this-reduce.result.snapshot c.take_this-reduce.ensures.held

pub end_overlaps-requires-clause-first : goal.end_overlaps-requires-clause-first
end_overlaps-requires-clause-first g c =
    c.commit.ensures c.take_both-hands.result.first.ticket c.take_both-hands.result.first.snapshot c.take_both-hands.ensures.first
    (λ e. omega (arith, e, c.take_this-reduce.ensures.number, c.take_both-hands.ensures.number, c.take_both-hands.ensures.next))

pub end_overlaps-requires-clause-second : goal.end_overlaps-requires-clause-second
end_overlaps-requires-clause-second g c =
    c.commit.ensures c.take_both-hands.result.second.ticket c.take_both-hands.result.second.snapshot c.take_both-hands.ensures.second
    (λ e. omega (arith, e, c.take_this-reduce.ensures.number, c.take_both-hands.ensures.number, c.take_both-hands.ensures.next))

pub end_overlaps-requires-clause-differ : goal.end_overlaps-requires-clause-differ
end_overlaps-requires-clause-differ g c = λ e. omega (arith, e, c.take_both-hands.ensures.number, c.take_both-hands.ensures.next)

use Rattle.mkb_board.proofs.Held.{held_proposes}
use Rattle.kb_journal.proofs.replaying.finish.Goals as goal

pub work-requires : goal.work-requires
work-requires c = c.requires.readable

pub finish-requires-clause-flying : goal.finish-requires-clause-flying
finish-requires-clause-flying c = c.requires.flying

pub finish-requires-clause-proposed : goal.finish-requires-clause-proposed
finish-requires-clause-proposed c = held_proposes c.args.board.now c.args.hand.now.ticket c.args.hand.now.snapshot c.in_ok-proposal.proposal c.requires c.in_ok-proposal.ensures

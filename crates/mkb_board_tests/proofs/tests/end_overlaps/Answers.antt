use Rattle.mkb_board_tests.proofs.tests.end_overlaps.Goals as goal

pub drop_for-requires : goal.drop_for-requires
drop_for-requires g c = c.commit.ensures c.args.hands.now.second.ticket c.args.hands.now.second.snapshot c.requires.second c.requires.differ

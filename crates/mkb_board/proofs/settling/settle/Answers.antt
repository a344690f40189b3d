use Rattle.mkb_board.proofs.Sleepers.{differs_rested, rested_label, same_limits, settles}
use Rattle.mkb_board.proofs.AtRest.{same_rest}
use Rattle.mkb_board.proofs.settling.settle.Goals as goal

pub wake-requires-clause-rest : goal.wake-requires-clause-rest
wake-requires-clause-rest c = same_rest c.args.state.now c.rest.new.state (differs_rested c.args.state.now c.rest.new.state c.rest.ensures.rested) c.requires.rest

pub wake-requires-clause-limited : goal.wake-requires-clause-limited
wake-requires-clause-limited c = same_limits c.args.state.now c.rest.new.state (differs_rested c.args.state.now c.rest.new.state c.rest.ensures.rested) c.requires.limited

pub wake-requires-clause-sleepers : goal.wake-requires-clause-sleepers
wake-requires-clause-sleepers c = rested_label c.args.state.now c.rest.new.state c.rest.ensures.rested c.requires.in_order c.requires.sleepers

pub returns-clause-settled : goal.returns-clause-settled
returns-clause-settled c = settles c.args.state.now c.rest.new.state c.wake.new.state c.rest.ensures.rested c.wake.ensures.awake

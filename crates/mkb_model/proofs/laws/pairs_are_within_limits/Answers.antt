use Rattle.mkb_model.proofs.nodes.Sizes.{limited_run}
use Rattle.mkb_model.proofs.laws.pairs_are_within_limits.Goals as goal

pub returns : goal.returns
returns c = limited_run

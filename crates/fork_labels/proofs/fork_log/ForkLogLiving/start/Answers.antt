use Rattle.std.proofs.Common.{ap}
use Rattle.fork_labels.specs.Places.{names_after, living_of}
use Rattle.fork_labels.proofs.Logs.{start_log}
use Rattle.fork_labels.proofs.fork_log.ForkLogLiving.start.Goals as goal

pub invariant_of-result : goal.invariant_of-result
invariant_of-result c =
    start_log c.new.result.items c.in_ok-places.places.items c.in_ok-living.living c.new.ensures.items c.in_ok-places.ensures c.in_ok-living.ensures

pub returns : goal.returns
unfolding names_after
returns c = ap living_of c.new.ensures.items

use Rattle.std.proofs.Common.{refl, arith}
use Rattle.fork_labels.specs.Sets.{has_place, set_in}
use Rattle.fork_labels.proofs.Clear.{clear-none}
use Rattle.fork_labels.proofs.place_set.PlaceSet.none.Goals as goal

pub returns : goal.returns
unfolding set_in has_place
returns c = refl

pub invariant_of-result : goal.invariant_of-result
invariant_of-result c = (omega arith, clear-none 1 16)

use Rattle.std.proofs.Common.{refl}
use Rattle.term_bank.specs.Hashing.{mix}
use Rattle.term_bank.proofs.hashing.mixed.Goals as goal

pub returns : goal.returns
unfolding mix
returns c = refl

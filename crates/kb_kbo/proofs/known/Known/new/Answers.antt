use Rattle.std.proofs.Common.{◌*◌, ◌+◌}
use Rattle.kb_lpo.proofs.Nothing.{nothing}
use Rattle.kb_kbo.proofs.known.Known.new.Goals as goal

pub returns : goal.returns
returns c = λ prec f g h i e. absurd (nothing 64 (8 * f + g) e)

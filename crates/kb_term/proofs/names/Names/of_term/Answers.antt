use Rattle.std.proofs.Common.{[], refl}
use Rattle.kb_term.proofs.names.Names.of_term.Goals as goal

pub returns : goal.returns
returns c = c.see.ensures [] refl

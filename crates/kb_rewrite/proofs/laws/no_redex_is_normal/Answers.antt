use Rattle.kb_rewrite.proofs.Irreducible.{normal_from}
use Rattle.kb_rewrite.proofs.laws.no_redex_is_normal.Goals as goal

pub returns : goal.returns
returns c = normal_from

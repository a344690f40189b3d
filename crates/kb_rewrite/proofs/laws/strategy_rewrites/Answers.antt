use Rattle.kb_rewrite.proofs.Irreducible.{step_from}
use Rattle.kb_rewrite.proofs.laws.strategy_rewrites.Goals as goal

pub returns : goal.returns
returns c = step_from

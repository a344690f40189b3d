use Rattle.kb_unify.proofs.Similar.{unifier_limit-alike}
use Rattle.kb_unify.proofs.unifier.unifiers_alike.Goals as goal

pub returns : goal.returns
returns c = unifier_limit-alike

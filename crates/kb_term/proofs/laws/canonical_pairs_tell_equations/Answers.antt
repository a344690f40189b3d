use Rattle.kb_term.proofs.CanonicalPairs.{same_from_canonical, canonical_from_same}
use Rattle.kb_term.proofs.laws.canonical_pairs_tell_equations.Goals as goal

pub returns : goal.returns
returns c s t u v = (same_from_canonical s t u v, canonical_from_same s t u v)

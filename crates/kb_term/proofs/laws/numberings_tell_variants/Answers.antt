use Rattle.kb_term.proofs.Variants.{variants_from_numbered, numbered_from_variants}
use Rattle.kb_term.proofs.laws.numberings_tell_variants.Goals as goal

pub returns : goal.returns
returns c s t u v = (variants_from_numbered s t u v, numbered_from_variants s t u v)

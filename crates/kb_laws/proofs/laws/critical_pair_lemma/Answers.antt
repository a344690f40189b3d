use Rattle.kb_laws.proofs.Closing.{closed_joins}
use Rattle.kb_laws.proofs.ConfluenceLaws.{critical_pair_lemma}
use Rattle.kb_laws.proofs.laws.critical_pair_lemma.Goals as goal

pub returns : goal.returns
returns c = record { overlaps = critical_pair_lemma; closed = closed_joins }

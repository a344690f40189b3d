use Rattle.kb_laws.proofs.ConfluenceLaws.{confluent_by_newman, confluent_by_overlaps}
use Rattle.kb_laws.proofs.laws.newmans_lemma.Goals as goal

pub returns : goal.returns
returns c = record { local = confluent_by_newman; overlaps = confluent_by_overlaps }

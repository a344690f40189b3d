use Rattle.kb_kbo.proofs.Counts.{none_counted}
use Rattle.kb_kbo.proofs.order.no_counts.Goals as goal

pub returns : goal.returns
returns c = none_counted 64

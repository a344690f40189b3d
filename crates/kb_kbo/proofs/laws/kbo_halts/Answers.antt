use Rattle.kb_kbo.proofs.KboHalting.{kbo_rule, lighter_few, chains_short, terminating_by_kbo}
use Rattle.kb_kbo.proofs.laws.kbo_halts.Goals as goal

pub returns : goal.returns
returns c = record { rules = kbo_rule; few = lighter_few; short = chains_short; halts = terminating_by_kbo }

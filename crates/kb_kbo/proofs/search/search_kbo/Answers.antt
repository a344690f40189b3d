use Rattle.std.proofs.Common.{length, []}
use Rattle.kb_kbo.proofs.Weighing.{floor_empty}
use Rattle.kb_kbo.proofs.search.search_kbo.Goals as goal

pub search_above-requires-clause-floor : goal.search_above-requires-clause-floor
search_above-requires-clause-floor c = floor_empty c.args.rules.now (length c.args.sig.now) (length c.args.sig.now) []

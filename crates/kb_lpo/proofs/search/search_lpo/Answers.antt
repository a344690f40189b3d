use Rattle.kb_lpo.proofs.Ascending.{floor_empty}
use Rattle.kb_lpo.proofs.search.search_lpo.Goals as goal
use Rattle.std.proofs.Common.{length, []}

pub search_above-requires : goal.search_above-requires
search_above-requires c = record { few = c.requires; bound = floor_empty c.args.rules.now (length c.args.sig.now) (length c.args.sig.now) [] }

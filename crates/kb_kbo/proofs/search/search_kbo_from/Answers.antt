use Rattle.std.proofs.Common.{length, [], subst, sym}
use Rattle.kb_kbo.specs.Search.{IsFloor}
use Rattle.kb_kbo.proofs.Weighing.{floor_from_bound}
use Rattle.kb_kbo.proofs.search.search_kbo_from.Goals as goal

pub search_above-requires-clause-floor : goal.search_above-requires-clause-floor
search_above-requires-clause-floor c =
    let n = length c.args.sig.now in
    subst (IsFloor c.args.rules.now n n []) (sym c.weights-2.ensures.weights) (floor_from_bound c.args.sig.now c.args.rules.now c.args.start (λ k d h. (c.weights-2.ensures.kept k d h).0) c.requires.start)

use Rattle.std.proofs.Common.{subst, sym, refl, length, []}
use Rattle.kb_lpo.specs.Precedences.{LpoOrients}
use Rattle.kb_lpo.specs.Search.{IsFloor}
use Rattle.kb_lpo.proofs.Answering.{yes}
use Rattle.kb_lpo.proofs.Ascending.{floor_from_bound}
use Rattle.kb_lpo.proofs.search.search_lpo_from.Goals as goal

pub returns-then-orients : goal.returns-then-orients
returns-then-orients c =
    let b = c.requires.bound in
    (subst (λ z. LpoOrients z c.args.rules.now) c.symbols.ensures (yes c.orients.ensures c.if-orients.true), b.0, b.1, b.2, b.3)

pub search_above-requires : goal.search_above-requires
search_above-requires c =
    let count = length c.args.sig.now in
    let bound = floor_from_bound c.args.rules.now count c.args.start [] refl c.requires.bound in
    record { few = c.requires.few; bound = subst (IsFloor c.args.rules.now count count []) (sym c.symbols-2.ensures) bound }

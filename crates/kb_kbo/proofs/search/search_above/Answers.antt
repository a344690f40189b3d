use Rattle.std.proofs.Common.{sym, [], ap, subst, arith, ◌≡◌, ◌+◌, List, ℕ, length, ◌≤◌}
use Rattle.std.specs.Prelude.{None, MatchOption}
use Rattle.kb_kbo.specs.KnuthBendix.{KboOrder}
use Rattle.kb_kbo.specs.Orders.{KboOrients}
use Rattle.kb_kbo.specs.Search.{IsAsked, IsFloor, IsWeighed}
use Rattle.kb_kbo.proofs.Weighing.{none_few, whole_weighed}
use Rattle.kb_kbo.proofs.search.search_above.Goals as goal

pub search-requires-clause-floor : goal.search-requires-clause-floor
search-requires-clause-floor c =
    let rules = c.args.rules.now in
    let floor = c.args.floor.now in
    let n = c.count-count.result in
    let items = c.in_ok-weights.weights.items in
    let e = c.in_ok-weights.ensures.items in
    let a = subst (λ (k : ℕ). IsFloor rules k k [] floor) (sym c.count-count.ensures.count) c.requires.floor in
    let b : n ≡ length items + n = omega (arith, ap length e) in
    subst (λ (k : ℕ). IsFloor rules k n items floor) b (subst (λ (z : List ℕ). IsFloor rules n n z floor) (sym e) a)

pub returns : goal.returns
returns c =
    let sig = c.args.sig.now in
    let rules = c.args.rules.now in
    let items = c.in_ok-weights.weights.items in
    let k = length items + c.count-count.result in
    let few : length sig ≤ 8 = omega (arith, c.if-count-gt-MAX_SYMBOLS.false, c.count-count.ensures.count) in
    let count : k ≡ length sig = omega (arith, c.count-count.ensures.count, ap length c.in_ok-weights.ensures.items) in
    let s = subst (λ o. IsWeighed rules k c.count-count.result items c.search.new.weights.items o) c.in-None.is c.in_ok-precedence.ensures.found in
    whole_weighed sig rules k c.count-count.result items c.search.new.weights.items None few count c.count-count.ensures.count c.in_ok-weights.ensures.items s

pub returns-in_default : goal.returns-in_default
returns-in_default c =
    let sig = c.args.sig.now in
    let rules = c.args.rules.now in
    let few : length sig ≤ 8 = omega (arith, c.if-count-gt-MAX_SYMBOLS.false, c.count-count.ensures.count) in
    none_few sig rules few (subst (λ found. MatchOption found ((order : KboOrder) → length order.weights ≤ 8 → ¬ KboOrients order rules) (IsAsked rules)) c.in_default.is c.in_ok-asked.ensures)

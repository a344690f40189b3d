use Rattle.std.proofs.Common.{◌≡◌, ◌∙◌}
use Rattle.kb_label.specs.Names.{IsInNameOrder}
use Rattle.kb_label.proofs.Searched.{search-found, search-present, search-absent}
use Rattle.mkb_rules.proofs.sleepers.Sleepers.place.Goals as goal

same : (c : goal.After-binary_search) → c.as_slice.result.now ≡ c.args.self.now
same c = c.as_slice.ensures.value ∙ c.self.view_is

in_order : (c : goal.After-binary_search) → IsInNameOrder c.as_slice.result.now
in_order c = rw c.as_slice.ensures.value c.self.invariant.0

pub returns-clause-found : goal.returns-clause-found
returns-clause-found c =
    rw (← same c) (search-found c.as_slice.result.now c.args.p.now (in_order c) c.binary_search.result c.binary_search.ensures.bound c.binary_search.ensures.position)

pub returns-clause-present : goal.returns-clause-present
returns-clause-present c =
    rw (← same c) (search-present c.as_slice.result.now c.args.p.now (in_order c) c.binary_search.result c.binary_search.ensures.bound c.binary_search.ensures.position)

pub returns-clause-absent : goal.returns-clause-absent
returns-clause-absent c =
    rw (← same c) (search-absent c.as_slice.result.now c.args.p.now (in_order c) c.binary_search.result c.binary_search.ensures.bound c.binary_search.ensures.position)

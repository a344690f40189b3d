use Rattle.std.proofs.Common.{sym, subst, refl}
use Rattle.std.specs.Prelude.{Some}
use Rattle.kb_term.specs.First.{IsFirst}
use Rattle.kb_linear.specs.Interpretations.{LinearOrients, interpretations_to}
use Rattle.kb_linear.specs.Numbers.{low_of}
use Rattle.kb_linear.specs.declared.search.Bounds.{Bounds}
use Rattle.kb_linear.specs.declared.search.Space.{Space}
use Rattle.kb_linear.proofs.Searching.{searched_shape}
use Rattle.kb_linear.proofs.Members.{tried_small}
use Rattle.kb_linear.proofs.Ready.{is_for, member_tried, bounds_ready, at_ready, start_ready, search_found, search_none}
use Rattle.kb_linear.proofs.search.search_to.Goals as goal

pub search-requires-clause-bounds : goal.search-requires-clause-bounds
search-requires-clause-bounds c =
    let bounds : Bounds = record { least = c.in_ok-numbers.field-0; most = c.in_ok-numbers-2.field-0; start = c.args.start } in
    let space : Space = record { low = c.args.low; high = c.in_ok-high.high } in
    let f = is_for c.args.sig.now c.args.top bounds space c.deref.result.now c.deref-2.result.now c.requires.small c.requires.low_least c.in_ok-high.ensures c.deref.ensures.value c.deref-2.ensures.value c.in_ok-numbers.ensures c.in_ok-numbers-2.ensures in
    bounds_ready c.args.sig.now c.args.top bounds space f

pub search-requires-clause-at : goal.search-requires-clause-at
search-requires-clause-at c =
    let bounds : Bounds = record { least = c.in_ok-numbers.field-0; most = c.in_ok-numbers-2.field-0; start = c.args.start } in
    let space : Space = record { low = c.args.low; high = c.in_ok-high.high } in
    let f = is_for c.args.sig.now c.args.top bounds space c.deref.result.now c.deref-2.result.now c.requires.small c.requires.low_least c.in_ok-high.ensures c.deref.ensures.value c.deref-2.ensures.value c.in_ok-numbers.ensures c.in_ok-numbers-2.ensures in
    at_ready c.args.sig.now c.args.top bounds space f

pub search-requires-clause-start : goal.search-requires-clause-start
search-requires-clause-start c =
    let bounds : Bounds = record { least = c.in_ok-numbers.field-0; most = c.in_ok-numbers-2.field-0; start = c.args.start } in
    let space : Space = record { low = c.args.low; high = c.in_ok-high.high } in
    let f = is_for c.args.sig.now c.args.top bounds space c.deref.result.now c.deref-2.result.now c.requires.small c.requires.low_least c.in_ok-high.ensures c.deref.ensures.value c.deref-2.ensures.value c.in_ok-numbers.ensures c.in_ok-numbers-2.ensures in
    λ e. start_ready c.args.sig.now c.args.top bounds space c.args.rules.now f (c.requires.start_tried e) (c.requires.start_first e)

pub new-requires : goal.new-requires
new-requires c =
    let bounds : Bounds = record { least = c.in_ok-numbers.field-0; most = c.in_ok-numbers-2.field-0; start = c.args.start } in
    let space : Space = record { low = c.args.low; high = c.in_ok-high.high } in
    let f = is_for c.args.sig.now c.args.top bounds space c.deref.result.now c.deref-2.result.now c.requires.small c.requires.low_least c.in_ok-high.ensures c.deref.ensures.value c.deref-2.ensures.value c.in_ok-numbers.ensures c.in_ok-numbers-2.ensures in
    let s = searched_shape c.args.rules.now bounds space c.search.new.space {k = 0} {n = 0} refl refl c.if-search.true c.search.ensures in
    tried_small c.args.sig.now c.args.top c.requires.small (low_of c.search.new.space) (member_tried c.args.sig.now c.args.top bounds space f (low_of c.search.new.space) s.0)

pub returns-then-search : goal.returns-then-search
returns-then-search c =
    let bounds : Bounds = record { least = c.in_ok-numbers.field-0; most = c.in_ok-numbers-2.field-0; start = c.args.start } in
    let space : Space = record { low = c.args.low; high = c.in_ok-high.high } in
    let f = is_for c.args.sig.now c.args.top bounds space c.deref.result.now c.deref-2.result.now c.requires.small c.requires.low_least c.in_ok-high.ensures c.deref.ensures.value c.deref-2.ensures.value c.in_ok-numbers.ensures c.in_ok-numbers-2.ensures in
    let s = searched_shape c.args.rules.now bounds space c.search.new.space {k = 0} {n = 0} refl refl c.if-search.true c.search.ensures in
    let r = search_found c.args.sig.now c.args.top bounds space c.search.new.space c.args.rules.now f s in
    subst (λ i. IsFirst (λ j. LinearOrients j c.args.rules.now) (interpretations_to c.args.sig.now c.args.top) (Some i)) (sym c.new.ensures) r

pub returns : goal.returns
returns c =
    let bounds : Bounds = record { least = c.in_ok-numbers.field-0; most = c.in_ok-numbers-2.field-0; start = c.args.start } in
    let space : Space = record { low = c.args.low; high = c.in_ok-high.high } in
    let f = is_for c.args.sig.now c.args.top bounds space c.deref.result.now c.deref-2.result.now c.requires.small c.requires.low_least c.in_ok-high.ensures c.deref.ensures.value c.deref-2.ensures.value c.in_ok-numbers.ensures c.in_ok-numbers-2.ensures in
    search_none c.args.sig.now c.args.top bounds space c.search.new.space c.args.rules.now f (searched_shape c.args.rules.now bounds space c.search.new.space {k = 0} {n = 0} refl refl c.if-search.false c.search.ensures)

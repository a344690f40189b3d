use Rattle.std.proofs.Common.{◌≡◌, ℕ, List, false, true, length, map, insert, ap, sym, subst, ◌∙◌, arith, rules}
use Rattle.std.proofs.lemmas.List.{length-map}
use Rattle.kb_label.specs.Names.{Name, child, has, IsInNameOrder}
use Rattle.fork_labels.specs.Places.{IsLog, living_of, names_of, place_in}
use Rattle.fork_labels.proofs.Picked.{sorted}
use Rattle.fork_labels.proofs.Inserted.{in_order, has-child, first_fits, second_fits, fork_places}
use Rattle.fork_labels.proofs.fork_log.places_after.Goals as goal

pub index_of-parent-requires-clause-in_order : goal.index_of-parent-requires-clause-in_order
index_of-parent-requires-clause-in_order c = subst IsInNameOrder (sym (c.processes.ensures ∙ c.log.invariant.2 ∙ ap living_of c.log.view_is)) (sorted (names_of c.args.log.now))

pub index_of-first-requires-clause-in_order : goal.index_of-first-requires-clause-in_order
index_of-first-requires-clause-in_order c = subst IsInNameOrder (sym c.requires.names) (in_order c.args.log.now c.args.process.now (subst IsLog c.log.view_is c.log.invariant.0) c.requires.lives)

pub index_of-first-requires-clause-there : goal.index_of-first-requires-clause-there
index_of-first-requires-clause-there c =
    ap (has c.args.names.now) c.child.ensures
    ∙ ap (λ (l : List Name). has l (child c.args.process.now false)) c.requires.names
    ∙ has-child c.args.log.now c.args.process.now (subst IsLog c.log.view_is c.log.invariant.0) c.requires.lives false

pub index_of-second-requires-clause-in_order : goal.index_of-second-requires-clause-in_order
index_of-second-requires-clause-in_order c = subst IsInNameOrder (sym c.requires.names) (in_order c.args.log.now c.args.process.now (subst IsLog c.log.view_is c.log.invariant.0) c.requires.lives)

pub index_of-second-requires-clause-there : goal.index_of-second-requires-clause-there
index_of-second-requires-clause-there c =
    ap (has c.args.names.now) c.child-2.ensures
    ∙ ap (λ (l : List Name). has l (child c.args.process.now true)) c.requires.names
    ∙ has-child c.args.log.now c.args.process.now (subst IsLog c.log.view_is c.log.invariant.0) c.requires.lives true

pub insert-requires : goal.insert-requires
insert-requires c =
    let fits = first_fits c.args.log.now c.args.process.now (subst IsLog c.log.view_is c.log.invariant.0) c.requires.lives c.processes.result.now c.args.names.now c.child.result c.child-2.result c.index_of-parent.result c.index_of-first.result c.index_of-second.result
    (c.processes.ensures ∙ c.log.invariant.2 ∙ ap living_of c.log.view_is) c.requires.names c.child.ensures c.child-2.ensures c.index_of-parent.ensures.within c.index_of-parent.ensures.at c.index_of-first.ensures.within c.index_of-first.ensures.at c.index_of-second.ensures.within c.index_of-second.ensures.at in
    let long = ap length (c.as_slice.ensures.value ∙ c.log.invariant.1) ∙ length-map (living_of c.log.inside.forks.items) (place_in (names_of c.log.inside.forks.items)) ∙ ap length (sym c.log.invariant.2 ∙ sym c.processes.ensures) in
    omega (arith, fits, long, c.remove-place.ensures.len, c.in_ok-places.ensures.len)

pub insert-requires-2 : goal.insert-requires-2
insert-requires-2 c =
    let fits = second_fits c.args.log.now c.args.process.now (subst IsLog c.log.view_is c.log.invariant.0) c.requires.lives c.processes.result.now c.args.names.now c.child.result c.child-2.result c.index_of-parent.result c.index_of-first.result c.index_of-second.result
    (c.processes.ensures ∙ c.log.invariant.2 ∙ ap living_of c.log.view_is) c.requires.names c.child.ensures c.child-2.ensures c.index_of-parent.ensures.within c.index_of-parent.ensures.at c.index_of-first.ensures.within c.index_of-first.ensures.at c.index_of-second.ensures.within c.index_of-second.ensures.at in
    let long = ap length (c.as_slice.ensures.value ∙ c.log.invariant.1) ∙ length-map (living_of c.log.inside.forks.items) (place_in (names_of c.log.inside.forks.items)) ∙ ap length (sym c.log.invariant.2 ∙ sym c.processes.ensures) in
    omega (arith, fits, long, c.remove-place.ensures.len, c.in_ok-places.ensures.len, c.in_ok-insert.ensures.len)

pub returns : goal.returns
returns c =
    let items : c.in_ok-places.places.items ≡ c.as_slice.result.now = search rules in
    let places = subst (λ (fs : List ℕ). c.log.inside.places.items ≡ map (place_in (names_of fs)) (living_of fs)) c.log.view_is c.log.invariant.1 in
    let count : c.living-count.result ≡ length (living_of c.args.log.now) = c.living-count.ensures.count ∙ ap length (c.log.invariant.2 ∙ ap living_of c.log.view_is) in
    c.in_ok-insert-2.ensures.items
    ∙ ap (λ (l : List ℕ). insert l c.index_of-second.result c.living-count.result) (c.in_ok-insert.ensures.items ∙ ap (λ (l : List ℕ). insert l c.index_of-first.result c.remove-place.result) c.remove-place.ensures.items)
    ∙ fork_places c.args.log.now c.args.process.now (subst IsLog c.log.view_is c.log.invariant.0) c.requires.lives c.processes.result.now c.args.names.now c.child.result c.child-2.result c.index_of-parent.result c.index_of-first.result c.index_of-second.result
    (c.processes.ensures ∙ c.log.invariant.2 ∙ ap living_of c.log.view_is) c.requires.names c.child.ensures c.child-2.ensures c.index_of-parent.ensures.within c.index_of-parent.ensures.at c.index_of-first.ensures.within c.index_of-first.ensures.at c.index_of-second.ensures.within c.index_of-second.ensures.at
    c.in_ok-places.places.items c.remove-place.result c.living-count.result (items ∙ c.as_slice.ensures.value ∙ places) c.remove-place.ensures.value count

use Rattle.std.proofs.Common.{arith, ◌≡◌, ◌<◌, ◌∙◌, sym, ap, subst, length, refl, [], ◌∷◌, ◌++◌}
use Rattle.std.specs.Prelude.{map, Ok}
use Rattle.kb_term.specs.Tree.{tree_depth, trees_of, apply}
use Rattle.kb_term.specs.Substitution.{instance}
use Rattle.kb_term.specs.View.{tree_of}
use Rattle.kb_match.specs.Binding.{bindings_of_list}
use Rattle.kb_term.proofs.Arguments.{argument-is, argument-depth, arguments-length}
use Rattle.kb_term.proofs.Trees.{apply-inj}
use Rattle.kb_match.specs.Extending.{IsPresent, IsAbsent}
use Rattle.kb_match.proofs.Extensions.{extended_as, clash_as, extended_old, clash_old, extended_new, extended_more, extended_all, clash_at, same_length, bindings_push, ok_value}
use Rattle.kb_match.proofs.matcher.+extend.Goals as goal
use Rattle.kb_match.proofs.matcher.+extend.Goals.{then-f-g-via-then-f-g, then-f-g-via-else-f-g+then-patterns-subjects}

pub returns-in-Some-clause-matched : goal.returns-in-Some-clause-matched
returns-in-Some-clause-matched t c e =
    let es = bindings_of_list c.args.bindings.now.items in
    let here : IsPresent c.in-Var-default.n (tree_of c.in-Some.known.now) es = subst (λ v. IsPresent c.in-Var-default.n (tree_of c.in-Some.known.now) (bindings_of_list v)) c.as_slice.ensures c.in-Some.ensures in
    extended_as (sym (ap tree_of c.in-Var-default.is-0)) refl es es (extended_old c.in-Var-default.n (tree_of c.in-Some.known.now) (tree_of c.args.subject.now) es here (c.eq.ensures.same.0 (ok_value e)))

pub returns-in-Some-clause-clash : goal.returns-in-Some-clause-clash
returns-in-Some-clause-clash t c e =
    let es = bindings_of_list c.args.bindings.now.items in
    let here : IsPresent c.in-Var-default.n (tree_of c.in-Some.known.now) es = subst (λ v. IsPresent c.in-Var-default.n (tree_of c.in-Some.known.now) (bindings_of_list v)) c.as_slice.ensures c.in-Some.ensures in
    clash_as (sym (ap tree_of c.in-Var-default.is-0)) refl es (clash_old c.in-Var-default.n (tree_of c.in-Some.known.now) (tree_of c.args.subject.now) es here (λ same. absurd (cc (c.eq.ensures.same.1 same, ok_value e))))

pub returns-then-f-g-clause-clash : goal.returns-then-f-g-clause-clash
returns-then-f-g-clause-clash t c e k g same =
    let ps = map tree_of c.items-patterns.result.now in
    let ts = map tree_of c.items-subjects.result.now in
    let whole : tree_of c.args.pattern.now ≡ apply c.in-App-App.f.0 (trees_of ps) = ap tree_of c.in-App-App.is-0 ∙ ap (λ vs. apply c.in-App-App.f.0 (trees_of vs)) (sym c.items-patterns.ensures) in
    let other : tree_of c.args.subject.now ≡ apply c.in-App-App.g.0 (trees_of ts) = ap tree_of c.in-App-App.is-1 ∙ ap (λ vs. apply c.in-App-App.g.0 (trees_of vs)) (sym c.items-subjects.ensures) in
    let both : instance k (apply c.in-App-App.f.0 (trees_of ps)) ≡ apply c.in-App-App.g.0 (trees_of ts) = sym (ap (instance k) whole) ∙ same ∙ other in
    let parts = apply-inj both in
    elim c.then-f-g.branch [
      | then-f-g-via-then-f-g w ↦ absurd (omega (arith, w.if-f-g.true, parts.0))
      | then-f-g-via-else-f-g+then-patterns-subjects w ↦ absurd (omega (arith, w.if-patterns-subjects.true, same_length k ps ts parts.1, arguments-length c.items-patterns.result.now, arguments-length c.items-subjects.result.now))
    ]

pub extend-requires : goal.extend-requires
extend-requires t c =
    let items = c.items-patterns.result.now in
    let us = map tree_of items in
    let i = c.loop-i.i in
    let here = argument-is items us i c.index-patterns-i.result refl c.loop-i-test.true c.index-patterns-i.is in
    let room : i < length us = omega (arith, arguments-length items) in
    let whole : tree_of c.args.pattern.now ≡ apply c.in-App-App.f.0 (trees_of us) = ap tree_of c.in-App-App.is-0 ∙ ap (λ vs. apply c.in-App-App.f.0 (trees_of vs)) (sym c.items-patterns.ensures) in
    (omega (arith, ap tree_depth here, argument-depth us i room, ap tree_depth whole, c.decreases), tt)

pub returns-then-not-branch-clause-clash : goal.returns-then-not-branch-clause-clash
returns-then-not-branch-clause-clash t c e =
    let items = c.items-patterns.result.now in
    let others = c.items-subjects.result.now in
    let ps = map tree_of items in
    let ts = map tree_of others in
    let i = c.loop-i.i in
    let room : i < length ps = omega (arith, arguments-length items) in
    let here = argument-is items ps i c.index-patterns-i.result refl c.loop-i-test.true c.index-patterns-i.is in
    let there = argument-is others ts i c.index-subjects-i.result refl (omega (arith, c.loop-i-test.true, c.if-patterns-subjects.false)) c.index-subjects-i.is in
    let whole : tree_of c.args.pattern.now ≡ apply c.in-App-App.f.0 (trees_of ps) = ap tree_of c.in-App-App.is-0 ∙ ap (λ vs. apply c.in-App-App.f.0 (trees_of vs)) (sym c.items-patterns.ensures) in
    let other : tree_of c.args.subject.now ≡ apply c.in-App-App.g.0 (trees_of ts) = ap tree_of c.in-App-App.is-1 ∙ ap (λ vs. apply c.in-App-App.g.0 (trees_of vs)) (sym c.items-subjects.ensures) in
    let none = clash_as here there (bindings_of_list c.loop-i.bindings.items) (c.in_ok-extend-in-App-App.ensures.clash (ap Ok c.if-not-branch.true)) in
    λ k g same. clash_at ps ts i (bindings_of_list c.args.bindings.now.items) (bindings_of_list c.loop-i.bindings.items) room c.loop-i.invariant none k g (apply-inj (sym (ap (instance k) whole) ∙ same ∙ other)).1

pub loop-i-preserved : goal.loop-i-preserved
loop-i-preserved t c =
    let items = c.items-patterns.result.now in
    let others = c.items-subjects.result.now in
    let ps = map tree_of items in
    let ts = map tree_of others in
    let i = c.loop-i.i in
    let room : i < length ps = omega (arith, arguments-length items) in
    let space : i < length ts = omega (arith, arguments-length items, arguments-length others, c.loop-i-test.true, c.if-patterns-subjects.false) in
    let here = argument-is items ps i c.index-patterns-i.result refl c.loop-i-test.true c.index-patterns-i.is in
    let there = argument-is others ts i c.index-subjects-i.result refl (omega (arith, c.loop-i-test.true, c.if-patterns-subjects.false)) c.index-subjects-i.is in
    let one = extended_as here there (bindings_of_list c.loop-i.bindings.items) (bindings_of_list c.extend.new.bindings.items) (c.in_ok-extend-in-App-App.ensures.matched (ap Ok c.if-not-branch.false)) in
    extended_more ps ts i (bindings_of_list c.args.bindings.now.items) (bindings_of_list c.loop-i.bindings.items) (bindings_of_list c.extend.new.bindings.items) room space c.loop-i.invariant one

pub returns-in_ok-push-in-Var-default-clause-matched : goal.returns-in_ok-push-in-Var-default-clause-matched
returns-in_ok-push-in-Var-default-clause-matched t c e =
    let n = c.in-Var-default.n in
    let before = c.args.bindings.now.items in
    let es = bindings_of_list before in
    let absent : IsAbsent n es = subst (λ v. IsAbsent n (bindings_of_list v)) c.as_slice.ensures c.in_default.ensures in
    let new_is : bindings_of_list c.push.new.self.items ≡ es ++ (n, tree_of c.args.subject.now) ∷ [] = ap bindings_of_list c.in_ok-push-in-Var-default.ensures.ok ∙ bindings_push before n c.args.subject in
    extended_as (sym (ap tree_of c.in-Var-default.is-0)) refl es (bindings_of_list c.push.new.self.items) (extended_new n (tree_of c.args.subject.now) es (bindings_of_list c.push.new.self.items) absent new_is)

pub returns-after-loop-i-clause-matched : goal.returns-after-loop-i-clause-matched
returns-after-loop-i-clause-matched t c e =
    let items = c.items-patterns.result.now in
    let others = c.items-subjects.result.now in
    let ps = map tree_of items in
    let ts = map tree_of others in
    let n = c.loop-i.i in
    let as_many : n ≡ length ps = omega (arith, arguments-length items, c.loop-i-test.false, c.loop-i.auto.i-end) in
    let as_many_too : n ≡ length ts = omega (arith, arguments-length items, arguments-length others, c.loop-i-test.false, c.loop-i.auto.i-end, c.if-patterns-subjects.false) in
    let whole : tree_of c.args.pattern.now ≡ apply c.in-App-App.f.0 (trees_of ps) = ap tree_of c.in-App-App.is-0 ∙ ap (λ vs. apply c.in-App-App.f.0 (trees_of vs)) (sym c.items-patterns.ensures) in
    let other : tree_of c.args.subject.now ≡ apply c.in-App-App.g.0 (trees_of ts) = ap tree_of c.in-App-App.is-1 ∙ ap (λ vs. apply c.in-App-App.g.0 (trees_of vs)) (sym c.items-subjects.ensures) in
    let one : c.in-App-App.f.0 ≡ c.in-App-App.g.0 = omega (arith, c.if-f-g.false) in
    let es = bindings_of_list c.args.bindings.now.items in
    let ds = bindings_of_list c.loop-i.bindings.items in
    extended_as (sym whole) (sym other) es ds (extended_all c.in-App-App.f.0 c.in-App-App.g.0 ps ts n es ds one as_many as_many_too c.loop-i.invariant)

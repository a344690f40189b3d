use Rattle.std.proofs.Common.{arith, ◌≡◌, ◌<◌, ◌∙◌, sym, ap, subst, length, refl, below_more}
use Rattle.std.specs.Prelude.{map, IfSome, Ok, reverse}
use Rattle.kb_term.specs.Tree.{tree_depth, trees_of, apply, variable}
use Rattle.kb_term.specs.View.{tree_of}
use Rattle.kb_term.proofs.Arguments.{argument-is, argument-depth, arguments-length}
use Rattle.kb_term.specs.FewArguments.{HasFewArguments}
use Rattle.kb_term.proofs.FewArguments.{few_arguments, arguments-count}
use Rattle.kb_rewrite.specs.Search.{IsRootRedex, IsFirstRule, IsFirstAt}
use Rattle.kb_rewrite.proofs.FirstRedexes.{first_root, none_variable, none_apply, first_in, reverse_push, first_same, none_same, none_applies}
use Rattle.kb_rewrite.proofs.system.System.+first_below.Goals as goal

pub returns-in-Some-clause-first : goal.returns-in-Some-clause-first
returns-in-Some-clause-first t c =
    let P = IsRootRedex c.args.self.now c.args.strict_only (tree_of c.args.whole.now) in
    let found = subst (IsFirstRule (P (tree_of c.args.t.now))) c.in-Some.is c.in_ok-i.ensures in
    first_same P c.in-Some.i refl (sym (ap reverse c.new.ensures.items)) (first_root P (tree_of c.args.t.now) c.in-Some.i found)

pub first_below-requires : goal.first_below-requires
first_below-requires t c =
    let items = c.items-items.result.now in
    let us = map tree_of items in
    let k = c.loop-k.k in
    let here = argument-is items us k c.index-items-k.result refl c.loop-k-test.true c.index-items-k.is in
    let room : k < length us = omega (arith, arguments-length items) in
    let whole : tree_of c.args.t.now ≡ apply c.in-App.field-0.0 (trees_of us) = ap tree_of c.in-App.is ∙ ap (λ vs. apply c.in-App.field-0.0 (trees_of vs)) (sym c.items-items.ensures) in
    let few : HasFewArguments (apply c.in-App.field-0.0 (trees_of us)) = subst HasFewArguments whole c.requires in
    (omega (arith, ap tree_depth here, argument-depth us k room, ap tree_depth whole, c.decreases), subst HasFewArguments (sym here) (few_arguments us k room few.1))

pub overflow_cast-k : goal.overflow_cast-k
overflow_cast-k t c =
    let items = c.items-items.result.now in
    let us = map tree_of items in
    let whole : tree_of c.args.t.now ≡ apply c.in-App.field-0.0 (trees_of us) = ap tree_of c.in-App.is ∙ ap (λ vs. apply c.in-App.field-0.0 (trees_of vs)) (sym c.items-items.ensures) in
    let few : HasFewArguments (apply c.in-App.field-0.0 (trees_of us)) = subst HasFewArguments whole c.requires in
    omega (arith, few.0, arguments-count us, arguments-length items, c.loop-k-test.true)

pub returns-in-Some-2-clause-first : goal.returns-in-Some-2-clause-first
returns-in-Some-2-clause-first t c =
    let P = IsRootRedex c.args.self.now c.args.strict_only (tree_of c.args.whole.now) in
    let items = c.items-items.result.now in
    let us = map tree_of items in
    let k = c.loop-k.k in
    let here = argument-is items us k c.index-items-k.result refl c.loop-k-test.true c.index-items-k.is in
    let room : k < length us = omega (arith, arguments-length items) in
    let whole : tree_of c.args.t.now ≡ apply c.in-App.field-0.0 (trees_of us) = ap tree_of c.in-App.is ∙ ap (λ vs. apply c.in-App.field-0.0 (trees_of vs)) (sym c.items-items.ensures) in
    let inside = subst (λ o. IfSome o (λ e. IsFirstAt P (tree_of c.index-items-k.result) (reverse e.0.items) e.1)) c.in-Some-2.is c.in_ok-first_below-in-App.ensures.first in
    first_same P c.in-Some-2.i (sym whole) (sym (reverse_push c.in-Some-2.steps.items c.push.new.self.items k c.in_ok-push-in-Some-2.ensures.items))
    (first_in P c.in-App.field-0.0 us k (reverse c.in-Some-2.steps.items) c.in-Some-2.i room (none_applies c.args.self.now c.args.strict_only (tree_of c.args.whole.now) whole c.in_default.is c.in_ok-i.ensures) c.loop-k.invariant (first_same P c.in-Some-2.i here refl inside))

pub loop-k-preserved : goal.loop-k-preserved
loop-k-preserved t c =
    let P = IsRootRedex c.args.self.now c.args.strict_only (tree_of c.args.whole.now) in
    let items = c.items-items.result.now in
    let us = map tree_of items in
    let k = c.loop-k.k in
    let here = argument-is items us k c.index-items-k.result refl c.loop-k-test.true c.index-items-k.is in
    below_more _ _ c.loop-k.invariant (none_same P here (c.in_ok-first_below-in-App.ensures.none (ap Ok c.in-None.is)))

pub returns-in-Var-clause-none : goal.returns-in-Var-clause-none
returns-in-Var-clause-none t c _ =
    let P = IsRootRedex c.args.self.now c.args.strict_only (tree_of c.args.whole.now) in
    let whole : tree_of c.args.t.now ≡ variable c.in-Var.field-0 = ap tree_of c.in-Var.is in
    none_same P (sym whole) (none_variable P c.in-Var.field-0 (none_applies c.args.self.now c.args.strict_only (tree_of c.args.whole.now) whole c.in_default.is c.in_ok-i.ensures))

pub returns-after-loop-k-clause-none : goal.returns-after-loop-k-clause-none
returns-after-loop-k-clause-none t c _ =
    let P = IsRootRedex c.args.self.now c.args.strict_only (tree_of c.args.whole.now) in
    let items = c.items-items.result.now in
    let us = map tree_of items in
    let whole : tree_of c.args.t.now ≡ apply c.in-App.field-0.0 (trees_of us) = ap tree_of c.in-App.is ∙ ap (λ vs. apply c.in-App.field-0.0 (trees_of vs)) (sym c.items-items.ensures) in
    none_same P (sym whole) (none_apply P c.in-App.field-0.0 us (none_applies c.args.self.now c.args.strict_only (tree_of c.args.whole.now) whole c.in_default.is c.in_ok-i.ensures) (λ j p. c.loop-k.invariant j (omega (arith, p, arguments-length items, c.loop-k-test.false))))

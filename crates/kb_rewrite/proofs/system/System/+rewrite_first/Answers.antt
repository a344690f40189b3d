use Rattle.std.proofs.Common.{ℕ, suc, arith, ◌≡◌, ◌<◌, ◌∙◌, sym, ap, subst, List, [], length, refl, get_or, below_more, Option, None}
use Rattle.std.specs.Prelude.{map, false, MatchOption}
use Rattle.kb_term.specs.Tree.{Tree, tree_depth, trees_of, apply, variable}
use Rattle.kb_term.specs.Position.{with_argument}
use Rattle.kb_term.specs.Rule.{Rule}
use Rattle.kb_term.specs.View.{tree_of}
use Rattle.kb_term.specs.declared.term.Term.{Term}
use Rattle.kb_term.proofs.Arguments.{argument-is, argument-depth, arguments-length}
use Rattle.kb_rewrite.specs.NormalForm.{IsRedex, StrategyStep}
use Rattle.kb_rewrite.proofs.Steps.{put, put_back}
use Rattle.kb_rewrite.proofs.Strategy.{tried_step, tried_none, strategy_in, no_redex_variable, no_redex_apply, no_redex_same, root_same, strategy_same}
use Rattle.kb_rewrite.proofs.system.System.+rewrite_first.Goals as goal

-- there is no redex at the root
root : (rules : List Rule) (t : Tree) {o : Option Term} → o ≡ None → MatchOption o ((i : ℕ) → ¬ IsRedex rules false t [] i) (λ u. StrategyStep rules t (tree_of u)) → (i : ℕ) → ¬ IsRedex rules false t [] i
root rules t e h = subst (λ o. MatchOption o ((i : ℕ) → ¬ IsRedex rules false t [] i) (λ u. StrategyStep rules t (tree_of u))) e h

-- the argument at an index, where the arguments are still those of the beginning
argument_there : (ts us : List Term) (k : ℕ) (x : Term) → map tree_of ts ≡ map tree_of us → k < length us → x ≡ get_or ts k x → (k < length ts) × (tree_of x ≡ get_or (map tree_of us) k (variable 0))
argument_there ts us k x same h is =
    let room : k < length ts = omega (arith, h, ap (length {A = Tree}) same, arguments-length ts, arguments-length us) in
    (room, argument-is ts (map tree_of ts) k x refl room is ∙ ap (λ vs. get_or vs k (variable 0)) same)

pub rewrite_first-requires : goal.rewrite_first-requires
rewrite_first-requires t c =
    let items = c.into_items-items.result.items in
    let us = map tree_of items in
    let k = c.loop-k.k in
    let room : k < length items = omega (arith, c.loop-k-test.true, c.len-k-end.ensures, c.into_items-items.result.ok) in
    let here = argument_there c.loop-k.items.items items k c.index_mut.result.now c.loop-k.invariant.0 room c.index_mut.ensures.value in
    let among : k < length us = omega (arith, room, arguments-length items) in
    let whole : tree_of c.args.t ≡ apply c.in-App.f.0 (trees_of us) = ap tree_of c.in-App.is ∙ ap (λ vs. apply c.in-App.f.0 (trees_of vs)) (sym c.into_items-items.ensures) in
    (omega (arith, ap (λ u. tree_depth (tree_of u)) c.replace-item.ensures.value, ap tree_depth here.1, argument-depth us k among, ap tree_depth whole, c.decreases), tt)

pub returns-in-Rewritten : goal.returns-in-Rewritten
returns-in-Rewritten t c =
    let rules = c.args.self.now in
    let items = c.into_items-items.result.items in
    let us = map tree_of items in
    let k = c.loop-k.k in
    let room : k < length items = omega (arith, c.loop-k-test.true, c.len-k-end.ensures, c.into_items-items.result.ok) in
    let here = argument_there c.loop-k.items.items items k c.index_mut.result.now c.loop-k.invariant.0 room c.index_mut.ensures.value in
    let among : k < length us = omega (arith, room, arguments-length items) in
    let whole : tree_of c.args.t ≡ apply c.in-App.f.0 (trees_of us) = ap tree_of c.in-App.is ∙ ap (λ vs. apply c.in-App.f.0 (trees_of vs)) (sym c.into_items-items.ensures) in
    let v = tree_of c.in-Rewritten.made in
    let made : with_argument (trees_of us) (suc k) v ≡ trees_of c.new.result = ap (λ vs. with_argument (trees_of vs) (suc k) v) (sym c.loop-k.invariant.0) ∙ sym (put c.loop-k.items.items k c.replace-item.new.dest c.in-Rewritten.made here.0) ∙ ap trees_of (sym c.new.ensures) in
    let inside = tried_step rules (tree_of c.replace-item.result) c.in-Rewritten.made c.in-Rewritten.is c.in_ok-same-in-App.ensures in
    strategy_same rules (sym whole) (ap (apply c.in-App.f.0) made) (strategy_in rules c.in-App.f.0 us k v among (root_same rules whole (root rules (tree_of c.args.t) c.in_default.is c.in_ok-made.ensures)) c.loop-k.invariant.1 (strategy_same rules (ap tree_of c.replace-item.ensures.value ∙ here.1) refl inside))

pub loop-k-preserved : goal.loop-k-preserved
loop-k-preserved t c =
    let rules = c.args.self.now in
    let items = c.into_items-items.result.items in
    let k = c.loop-k.k in
    let room : k < length items = omega (arith, c.loop-k-test.true, c.len-k-end.ensures, c.into_items-items.result.ok) in
    let here = argument_there c.loop-k.items.items items k c.index_mut.result.now c.loop-k.invariant.0 room c.index_mut.ensures.value in
    let there : tree_of c.replace-item.result ≡ get_or (map tree_of items) k (variable 0) = ap tree_of c.replace-item.ensures.value ∙ here.1 in
    let same = tried_none rules (tree_of c.replace-item.result) c.in-Same.same c.in-Same.is c.in_ok-same-in-App.ensures in
    let back = put_back c.loop-k.items.items k c.replace-item.new.dest c.in-Same.same here.0 (same.1 ∙ there ∙ ap (λ vs. get_or vs k (variable 0)) (sym c.loop-k.invariant.0)) in
    (back ∙ c.loop-k.invariant.0, below_more _ _ c.loop-k.invariant.1 (no_redex_same rules there same.0))

pub returns-in-Var : goal.returns-in-Var
returns-in-Var t c =
    let rules = c.args.self.now in
    let whole : tree_of c.args.t ≡ variable c.in-Var.n = ap tree_of c.in-Var.is in
    (no_redex_same rules (sym whole) (no_redex_variable rules c.in-Var.n (root_same rules whole (root rules (tree_of c.args.t) c.in_default.is c.in_ok-made.ensures))), sym whole)

pub returns-after-loop-k : goal.returns-after-loop-k
returns-after-loop-k t c =
    let rules = c.args.self.now in
    let items = c.into_items-items.result.items in
    let us = map tree_of items in
    let whole : tree_of c.args.t ≡ apply c.in-App.f.0 (trees_of us) = ap tree_of c.in-App.is ∙ ap (λ vs. apply c.in-App.f.0 (trees_of vs)) (sym c.into_items-items.ensures) in
    let none = no_redex_apply rules c.in-App.f.0 us (root_same rules whole (root rules (tree_of c.args.t) c.in_default.is c.in_ok-made.ensures)) (λ j p. c.loop-k.invariant.1 j (omega (arith, p, arguments-length items, c.loop-k-test.false, c.len-k-end.ensures, c.into_items-items.result.ok))) in
    (no_redex_same rules (sym whole) none, ap (λ vs. apply c.in-App.f.0 (trees_of vs)) (c.new-in-App.ensures ∙ c.loop-k.invariant.0) ∙ sym whole)

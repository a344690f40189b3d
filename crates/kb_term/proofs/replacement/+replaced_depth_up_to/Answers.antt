use Rattle.std.proofs.Common.{◌≡◌, ◌-◌, ◌∙◌, sym, ap, arith, get_or}
use Rattle.std.specs.Prelude.{map, min, take}
use Rattle.std.proofs.lemmas.List.{take_all}
use Rattle.kb_term.specs.Tree.{variable, apply, trees_of, tree_depth, list_depth}
use Rattle.kb_term.specs.View.{tree_of}
use Rattle.kb_term.proofs.Replaced.{members, is_replaced_in, replaced-depth, replaced-here, replaced-other, replaced-long, depth_more}
use Rattle.kb_term.proofs.replacement.+replaced_depth_up_to.Goals as goal
use Rattle.kb_term.proofs.replacement.+replaced_depth_up_to.Goals.{then-i-step, else-i-step}

pub loop-i-init : goal.loop-i-init
loop-i-init t c = record {
  bound = (omega arith, omega arith);
  counted = λ v e. omega arith;
  replaced = λ v e. (
    c.in-App.field-0.0,
    is_replaced_in (tree_of c.args.t.now) c.in-App.field-0.0 (map tree_of c.deref-argument-items.result.now) c.args.steps.now (tree_of c.args.u.now) v
        (ap tree_of c.in-App.is ∙ ap (λ us. apply c.in-App.field-0.0 (trees_of us)) (sym c.arguments.view_is ∙ ap (map tree_of) (sym c.deref-argument-items.ensures.value))) c.in-len1-up.len_at_least e,
  );
}

pub loop-i-preserved : goal.loop-i-preserved
loop-i-preserved t c =
    let items = c.deref-argument-items.result.now in
    let k = c.loop-i.i in
    record {
      bound = (c.loop-i.invariant.bound.0, elim c.if-i-step.branch [ then-i-step w ↦ omega (arith, w.replaced_depth_up_to-here.ensures.bound, w.here-is, c.max-deepest.ensures, c.loop-i.invariant.bound) | else-i-step w ↦ omega (arith, w.depth_up_to-here.ensures, w.here-is, c.max-deepest.ensures, c.loop-i.invariant.bound) ]);
      counted = λ v e.
          let r = (c.loop-i.invariant.replaced v e).1 in
          let now : c.if-i-step.here ≡ min (tree_depth (get_or (members v) k (variable 0))) (c.args.cap - 1) =
          elim c.if-i-step.branch [
            | then-i-step w ↦ w.here-is ∙ w.replaced_depth_up_to-here.ensures.depth (get_or (members v) k (variable 0)) (replaced-here _ items _ _ _ v k c.argument-item.result r w.if-i-step.true c.loop-i-test.true c.argument-item.is)
            | else-i-step w ↦ w.here-is ∙ w.depth_up_to-here.ensures ∙ ap (λ u. min (tree_depth u) (c.args.cap - 1)) (replaced-other _ items _ _ _ v k c.argument-item.result r w.if-i-step.false c.loop-i-test.true c.argument-item.is)
          ]
          in
          omega (arith, now, c.max-deepest.ensures, c.loop-i.invariant.counted v e, depth_more (members v) k (variable 0) (omega (arith, c.loop-i-test.true, replaced-long _ items _ _ _ v r)));
      replaced = c.loop-i.invariant.replaced;
    }

pub returns-after-loop-i-clause-depth : goal.returns-after-loop-i-clause-depth
returns-after-loop-i-clause-depth t c v e =
    let items = c.deref-argument-items.result.now in
    let r = (c.loop-i.invariant.replaced v e).1 in
    let all : take c.loop-i.i (members v) ≡ members v = take_all c.loop-i.i (members v) (omega (arith, c.loop-i-test.false, replaced-long _ items _ _ _ v r)) in
    omega (arith, c.loop-i.invariant.counted v e, ap list_depth all, replaced-depth _ _ _ _ _ v r, c.loop-i.invariant.bound.0)

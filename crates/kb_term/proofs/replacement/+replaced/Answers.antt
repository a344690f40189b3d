use Rattle.std.proofs.Common.{◌≡◌, ◌∙◌, sym, ap, arith, get_or}
use Rattle.std.specs.Prelude.{map, take}
use Rattle.std.proofs.lemmas.List.{take_all}
use Rattle.kb_term.specs.Tree.{variable, apply, trees_of}
use Rattle.kb_term.specs.View.{tree_of}
use Rattle.kb_term.proofs.Replaced.{members, is_replaced_in, replaced-here, replaced-other, replaced-long, made_more}
use Rattle.kb_term.proofs.replacement.+replaced.Goals as goal
use Rattle.kb_term.proofs.replacement.+replaced.Goals.{then-i-step+in_ok-item-in-App, else-i-step+in_ok-item-in-App-2}

pub loop-i-init : goal.loop-i-init
loop-i-init t c = record {
  made = λ v e. ap (map tree_of) c.in_ok-items-in-App.ensures.items;
  replaced = λ v e.
      is_replaced_in (tree_of c.args.t.now) c.in-App.f.0 (map tree_of c.deref-argument-items.result.now) c.args.steps.now (tree_of c.args.u.now) v
      (ap tree_of c.in-App.is ∙ ap (λ us. apply c.in-App.f.0 (trees_of us)) (sym c.arguments.view_is ∙ ap (map tree_of) (sym c.deref-argument-items.ensures.value))) c.in-len1-up.len_at_least e;
}

pub loop-i-preserved : goal.loop-i-preserved
loop-i-preserved t c =
    let items = c.deref-argument-items.result.now in
    let k = c.loop-i.i in
    record {
      made = λ v e.
          let r = c.loop-i.invariant.replaced v e in
          let now : tree_of c.if-i-step.item ≡ get_or (members v) k (variable 0) =
          elim c.if-i-step.branch [
            | then-i-step+in_ok-item-in-App w ↦ ap tree_of w.item-is ∙ w.in_ok-item-in-App.ensures (get_or (members v) k (variable 0)) (replaced-here _ items _ _ _ v k c.argument-item.result r w.if-i-step.true c.loop-i-test.true c.argument-item.is)
            | else-i-step+in_ok-item-in-App-2 w ↦ ap tree_of (w.item-is ∙ w.in_ok-item-in-App-2.ensures.cases) ∙ replaced-other _ items _ _ _ v k c.argument-item.result r w.if-i-step.false c.loop-i-test.true c.argument-item.is
          ]
          in
          made_more c.loop-i.items.items c.push.new.self.items c.if-i-step.item (members v) k c.in_ok-push-in-App.ensures.items (c.loop-i.invariant.made v e) now (omega (arith, c.loop-i-test.true, replaced-long _ items _ _ _ v r));
      replaced = c.loop-i.invariant.replaced;
    }

pub returns-after-loop-i : goal.returns-after-loop-i
returns-after-loop-i t c v e =
    let items = c.deref-argument-items.result.now in
    let r = c.loop-i.invariant.replaced v e in
    let all : take c.loop-i.i (members v) ≡ members v = take_all c.loop-i.i (members v) (omega (arith, c.loop-i-test.false, replaced-long _ items _ _ _ v r)) in
    ap (λ us. apply c.in-App.f.0 (trees_of us)) (c.loop-i.invariant.made v e ∙ all) ∙ sym r.whole

use Rattle.std.proofs.Common.{ℕ, zero, suc, ◌≡◌, ◌<◌, ◌∙◌, List, [], ◌∷◌, length, refl, sym, ap, arith, get_or}
use Rattle.std.specs.Prelude.{map, take}
use Rattle.std.proofs.lemmas.List.{take_all, length-map}
use Rattle.kb_term.specs.Tree.{Tree, variable, apply, more_trees, trees_of}
use Rattle.kb_term.specs.Substitution.{instance, instances, substitution_of}
use Rattle.kb_term.specs.View.{tree_of}
use Rattle.kb_term.proofs.Replaced.{members, is_replaced_in, replaced-here, replaced-other, replaced-long, made_more}
use Rattle.kb_overlap.proofs.instance.+instance_with.Goals as goal
use Rattle.kb_overlap.proofs.instance.+instance_with.Goals.{then-i-step+in_ok-item-in-App, else-i-step+in_ok-item-in-App-2}

-- instances, as a list
instances-list : (m : ℕ → Tree) (us : List Tree) → instances m (trees_of us) ≡ trees_of (map (instance m) us)
instances-list m [] = refl
instances-list m (u ∷ us) = ap (more_trees (instance m u)) (instances-list m us)

-- the argument at a place
instance-at : (m : ℕ → Tree) (us : List Tree) (k : ℕ) → k < length us → instance m (get_or us k (variable 0)) ≡ get_or (map (instance m) us) k (variable 0)
instance-at m [] k h = absurd (omega (arith, h))
instance-at m (u ∷ us) zero h = refl
instance-at m (u ∷ us) (suc k) h = instance-at m us k (omega (arith, h))

pub loop-i-init : goal.loop-i-init
loop-i-init t c = record {
  made = λ v e. ap (map tree_of) c.in_ok-items-in-App.ensures.items;
  replaced = λ v e.
      is_replaced_in (tree_of c.args.t.now) c.in-App.f.0 (map tree_of c.items-parts.result.now) c.args.steps.now (tree_of c.args.inner.now) v
      (ap tree_of c.in-App.is ∙ ap (λ us. apply c.in-App.f.0 (trees_of us)) (sym c.items-parts.ensures)) c.in-len1-up.len_at_least e;
}

pub loop-i-preserved : goal.loop-i-preserved
loop-i-preserved t c =
    let items = c.items-parts.result.now in
    let m = substitution_of c.args.m.now in
    let k = c.loop-i.i in
    record {
      made = λ v e.
          let r = c.loop-i.invariant.replaced v e in
          let long : k < length (members v) = omega (arith, c.loop-i-test.true, replaced-long _ items _ _ _ v r) in
          let now : tree_of c.if-i-step.item ≡ get_or (map (instance m) (members v)) k (variable 0) =
          elim c.if-i-step.branch [
            | then-i-step+in_ok-item-in-App w ↦ ap tree_of w.item-is ∙ w.in_ok-item-in-App.ensures (get_or (members v) k (variable 0)) (replaced-here _ items _ _ _ v k c.index-parts-i.result r w.if-i-step.true c.loop-i-test.true c.index-parts-i.is) ∙ instance-at m (members v) k long
            | else-i-step+in_ok-item-in-App-2 w ↦ ap tree_of w.item-is ∙ w.in_ok-item-in-App-2.ensures ∙ ap (instance m) (replaced-other _ items _ _ _ v k c.index-parts-i.result r w.if-i-step.false c.loop-i-test.true c.index-parts-i.is) ∙ instance-at m (members v) k long
          ]
          in
          made_more c.loop-i.items.items c.push.new.self.items c.if-i-step.item (map (instance m) (members v)) k c.in_ok-push-in-App.ensures.items (c.loop-i.invariant.made v e) now (omega (arith, long, length-map (members v) (instance m)));
      replaced = c.loop-i.invariant.replaced;
    }

pub returns-after-loop-i : goal.returns-after-loop-i
returns-after-loop-i t c v e =
    let items = c.items-parts.result.now in
    let m = substitution_of c.args.m.now in
    let r = c.loop-i.invariant.replaced v e in
    let all : take c.loop-i.i (map (instance m) (members v)) ≡ map (instance m) (members v) = take_all c.loop-i.i (map (instance m) (members v)) (omega (arith, c.loop-i-test.false, replaced-long _ items _ _ _ v r, length-map (members v) (instance m))) in
    ap (λ us. apply c.in-App.f.0 (trees_of us)) (c.new.ensures ∙ c.loop-i.invariant.made v e ∙ all) ∙ ap (apply c.in-App.f.0) (sym (instances-list m (members v))) ∙ ap (instance m) (sym r.whole)

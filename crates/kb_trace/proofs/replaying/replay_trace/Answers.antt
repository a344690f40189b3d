use Rattle.std.proofs.Common.{◌≡◌, ◌∙◌, ◌+◌, ◌++◌, ◌∷◌, [], sym, ap, ap₂, subst, take, length, get_or, List, arith}
use Rattle.std.specs.Prelude.{map}
use Rattle.std.proofs.lemmas.List.{take_more, map-append}
use Rattle.kb_overlap.specs.Trace.{TraceStep, IsRightTrace}
use Rattle.kb_trace.specs.Steps.{pairs_of}
use Rattle.kb_term.specs.View.{equations_of_list}
use Rattle.kb_trace.proofs.Replayed.{right_more, right_same, first_bad}
use Rattle.kb_trace.proofs.replaying.replay_trace.Goals as goal

pub returns-then-not-branch-clause-bad : goal.returns-then-not-branch-clause-bad
returns-then-not-branch-clause-bad c n e =
    let t = c.args.t.now in
    let k = c.loop-k.k in
    let step = c.index-steps-k.result in
    let number : n ≡ k + 1 = cc in
    let steps = c.steps-steps.ensures in
    first_bad c.args.p.now.equations t k n step (omega (arith, c.loop-k-test.true, ap length steps)) (c.index-steps-k.is ∙ ap (λ (xs : List TraceStep). get_or xs k step) steps) number c.loop-k.invariant.right
    (λ h.
    let holds = c.in_ok-is_right.ensures.1 (right_same _ _ _ _ _ _ _ _ (sym c.equations-equations.ensures) (sym (c.deref.ensures.value ∙ c.loop-k.invariant.pairs)) (sym c.origin.ensures) (sym c.pair.ensures) h) in
    absurd (grind (arith, holds, c.if-not-branch.true)))

pub loop-k-preserved : goal.loop-k-preserved
loop-k-preserved c =
    let t = c.args.t.now in
    let k = c.loop-k.k in
    let step = c.index-steps-k.result in
    let steps = c.steps-steps.ensures in
    let is : step ≡ get_or t k step = c.index-steps-k.is ∙ ap (λ (xs : List TraceStep). get_or xs k step) steps in
    let more : take (k + 1) t ≡ take k t ++ step ∷ [] = take_more t k step (omega (arith, c.loop-k-test.true, ap length steps)) ∙ ap (λ (x : TraceStep). take k t ++ x ∷ []) (sym is) in
    let right = c.in_ok-is_right.ensures.0 (grind (arith, c.if-not-branch.false)) in
    record {
      pairs =
          c.in_ok-push.ensures.items ∙ ap₂ (λ xs x. xs ++ x ∷ []) c.loop-k.invariant.pairs (c.in_ok-clone.ensures.cases ∙ c.pair-in-loop-k.ensures)
          ∙ sym (map-append (λ (s : TraceStep). s.pair) (take k t) (step ∷ [])) ∙ ap pairs_of (sym more);
      right =
          subst (IsRightTrace c.args.p.now.equations) (sym more)
          (right_more c.args.p.now.equations [] (take k t) step c.loop-k.invariant.right (right_same _ _ _ _ _ _ _ _ c.equations-equations.ensures (c.deref.ensures.value ∙ c.loop-k.invariant.pairs) c.origin.ensures c.pair.ensures right));
    }

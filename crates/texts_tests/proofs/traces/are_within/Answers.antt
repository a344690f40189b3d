use Rattle.std.proofs.Common.{◌≡◌, ◌<◌, ◌∙◌, ◌+◌, ◌++◌, ◌∷◌, [], sym, ap, subst, subst₂, arith, List, length, get_or, take}
use Rattle.std.proofs.lemmas.List.{take_more, take_all}
use Rattle.std.proofs.lemmas.List.Elements.{All-push}
use Rattle.kb_term.specs.Pair.{Pair, ArePairWithin}
use Rattle.kb_overlap.specs.Trace.{TraceStep}
use Rattle.kb_trace.specs.Steps.{ArePairsWithin}
use Rattle.texts_tests.proofs.traces.are_within.Goals as goal

pub loop-k-preserved : goal.loop-k-preserved
loop-k-preserved c =
    let t = c.args.t.now in
    let k = c.loop-k.k in
    let step = c.index-steps-k.result in
    let steps = c.steps-steps.ensures in
    let room : k < length t = omega (arith, c.loop-k-test.true, ap length steps) in
    let is : step ≡ get_or t k step = c.index-steps-k.is ∙ ap (λ (xs : List TraceStep). get_or xs k step) steps in
    let within = c.pair_limit.ensures.within.0 (grind (arith, c.is_some.ensures, c.if-is_some.false)) in
    let here = subst₂ ArePairWithin (c.first.ensures.side ∙ ap (λ (p : Pair). p.first) c.pair-pair.ensures) (c.second.ensures.side ∙ ap (λ (p : Pair). p.second) c.pair-pair.ensures) within in
    subst ArePairsWithin (sym (take_more t k step room ∙ ap (λ (x : TraceStep). take k t ++ x ∷ []) (sym is))) (All-push (λ (s : TraceStep). ArePairWithin s.pair.first s.pair.second) (take k t) step c.loop-k.invariant here)

pub returns : goal.returns
returns c =
    let t = c.args.t.now in
    subst ArePairsWithin (take_all c.loop-k.k t (omega (arith, c.loop-k-test.false, ap length c.steps-steps.ensures))) c.loop-k.invariant

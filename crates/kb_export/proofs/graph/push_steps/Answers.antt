use Rattle.std.proofs.Common.{◌≡◌, ◌∙◌, ◌<◌, ◌+◌, ◌++◌, ◌∷◌, [], sym, ap, ap₂, take, length, arith, append_assoc}
use Rattle.std.proofs.lemmas.List.{take_more, length-take-le}
use Rattle.kb_overlap.specs.Trace.{TraceStep}
use Rattle.kb_text.specs.Terms.{names_of}
use Rattle.kb_export.specs.Graphs.{step_lines, step_text}
use Rattle.kb_export.proofs.Numbered.{step_lines-more}
use Rattle.kb_export.proofs.graph.push_steps.Goals as goal

pub loop-i-preserved : goal.loop-i-preserved
loop-i-preserved c =
    let t = c.args.steps.now in
    let k = c.loop-i.i in
    let old = c.args.out.now.items in
    let names = names_of c.args.signature.now in
    let step = c.index-steps-i.result in
    let room : k < length t = omega (arith, c.loop-i-test.true) in
    let number : k + 1 ≡ 1 + length (take k t) = omega (arith, length-take-le k t (omega arith)) in
    c.in_ok-push_step.ensures ∙ ap₂ (λ xs n. xs ++ step_text names n step) c.loop-i.invariant number
    ∙ append_assoc old (step_lines names 1 (take k t)) (step_text names (1 + length (take k t)) step)
    ∙ ap (old ++◌) (sym (ap (step_lines names 1) (take_more t k step room ∙ ap (λ (x : TraceStep). take k t ++ x ∷ []) (sym c.index-steps-i.is)) ∙ step_lines-more names 1 (take k t) step))

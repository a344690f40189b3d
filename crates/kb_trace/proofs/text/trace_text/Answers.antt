use Rattle.std.proofs.Common.{◌≡◌, ◌∙◌, ◌<◌, ◌+◌, ◌++◌, ◌∷◌, [], sym, ap, ap₂, take, length, get_or, List, arith}
use Rattle.std.proofs.lemmas.List.{take_more, length-take-le}
use Rattle.kb_overlap.specs.Trace.{TraceStep}
use Rattle.kb_text.specs.Terms.{names_of}
use Rattle.kb_trace.specs.TraceText.{step_line, step_lines}
use Rattle.kb_trace.proofs.Lines.{step_lines-more}
use Rattle.kb_trace.proofs.text.trace_text.Goals as goal

pub loop-k-preserved : goal.loop-k-preserved
loop-k-preserved c =
    let t = c.args.t.now in
    let k = c.loop-k.k in
    let names = names_of c.args.sig.now in
    let step = c.index-steps-k.result in
    let steps = c.steps-steps.ensures in
    let room : k < length t = omega (arith, c.loop-k-test.true, ap length steps) in
    let is : step ≡ get_or t k step = c.index-steps-k.is ∙ ap (λ (xs : List TraceStep). get_or xs k step) steps in
    let number : k + 1 ≡ 1 + length (take k t) = omega (arith, length-take-le k t (omega arith)) in
    c.in_ok-push_step.ensures ∙ ap₂ (λ xs n. xs ++ step_line names n step) c.loop-k.invariant number
    ∙ sym (ap (step_lines names 1) (take_more t k step room ∙ ap (λ (x : TraceStep). take k t ++ x ∷ []) (sym is)) ∙ step_lines-more names 1 (take k t) step)

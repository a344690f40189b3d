-- Lines of steps.
use Rattle.std.proofs.Common.{ℕ, ◌≡◌, ◌+◌, ◌∙◌, sym, ap, arith, List, [], ◌∷◌, ◌++◌, length, append-nil, append_assoc}
use Rattle.kb_overlap.specs.Trace.{TraceStep}
use Rattle.kb_text.specs.Names.{Name}
use Rattle.kb_trace.specs.TraceText.{step_line, step_lines}

-- one more step
pub step_lines-more : (names : List Name) (n : ℕ) (steps : List TraceStep) (step : TraceStep) → step_lines names n (steps ++ step ∷ []) ≡ step_lines names n steps ++ step_line names (n + length steps) step
step_lines-more names n [] step = let same : n ≡ n + 0 = omega arith in append-nil (step_line names n step) ∙ ap (λ k. step_line names k step) same
step_lines-more names n (x ∷ steps) step =
    let same : n + 1 + length steps ≡ n + length (x ∷ steps) = omega arith in
    ap (step_line names n x ++◌) (step_lines-more names (n + 1) steps step ∙ ap (λ k. step_lines names (n + 1) steps ++ step_line names k step) same)
    ∙ sym (append_assoc (step_line names n x) (step_lines names (n + 1) steps) (step_line names (n + length (x ∷ steps)) step))

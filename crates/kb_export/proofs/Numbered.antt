-- Lines that are numbered.
use Rattle.std.proofs.Common.{ℕ, ◌≡◌, ◌+◌, ◌∙◌, sym, ap, arith, List, [], ◌∷◌, ◌++◌, length, append-nil, append_assoc}
use Rattle.kb_overlap.specs.Trace.{TraceStep}
use Rattle.kb_term.specs.Tree.{Tree}
use Rattle.kb_text.specs.Names.{Name}
use Rattle.kb_export.specs.Graphs.{equation_lines, node_line, step_lines, step_text}
use Rattle.kb_export.specs.declared.graph.Node.TheVariants.{Equation}

-- one more step
pub step_lines-more : (names : List Name) (n : ℕ) (steps : List TraceStep) (step : TraceStep) → step_lines names n (steps ++ step ∷ []) ≡ step_lines names n steps ++ step_text names (n + length steps) step
step_lines-more names n [] step = let same : n ≡ n + 0 = omega arith in append-nil (step_text names n step) ∙ ap (λ k. step_text names k step) same
step_lines-more names n (x ∷ steps) step =
    let same : n + 1 + length steps ≡ n + length (x ∷ steps) = omega arith in
    ap (step_text names n x ++◌) (step_lines-more names (n + 1) steps step ∙ ap (λ k. step_lines names (n + 1) steps ++ step_text names k step) same)
    ∙ sym (append_assoc (step_text names n x) (step_lines names (n + 1) steps) (step_text names (n + length (x ∷ steps)) step))

-- one more equation
pub equation_lines-more : (names : List Name) (n : ℕ) (es : List (Tree × Tree)) (e : Tree × Tree) → equation_lines names n (es ++ e ∷ []) ≡ equation_lines names n es ++ node_line names (Equation (n + length es)) e
equation_lines-more names n [] e = let same : n ≡ n + 0 = omega arith in append-nil (node_line names (Equation n) e) ∙ ap (λ k. node_line names (Equation k) e) same
equation_lines-more names n (x ∷ es) e =
    let same : n + 1 + length es ≡ n + length (x ∷ es) = omega arith in
    ap (node_line names (Equation n) x ++◌) (equation_lines-more names (n + 1) es e ∙ ap (λ k. equation_lines names (n + 1) es ++ node_line names (Equation k) e) same)
    ∙ sym (append_assoc (node_line names (Equation n) x) (equation_lines names (n + 1) es) (node_line names (Equation (n + length (x ∷ es))) e))

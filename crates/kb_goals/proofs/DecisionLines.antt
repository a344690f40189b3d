-- What is said of goals, one by one.
use Rattle.std.proofs.Common.{append-nil, append_assoc, ◌≡◌, ap, sym, ◌∙◌, arith, ℕ, suc, ◌+◌, List, [], ◌∷◌, ◌++◌, length}
use Rattle.kb_text.specs.Names.{Name}
use Rattle.kb_decide.specs.declared.decision.Decision.{Decision}
use Rattle.kb_goals.specs.Answering.{decision_text, decisions_text}

-- one more
pub decisions_text-more : (names : List Name) (i : ℕ) (ds : List Decision) (d : Decision) → decisions_text names i (ds ++ d ∷ []) ≡ decisions_text names i ds ++ decision_text names (i + length ds) d
decisions_text-more names i [] d = let same : i ≡ i + 0 = omega arith in append-nil (decision_text names i d) ∙ ap (λ n. decision_text names n d) same
decisions_text-more names i (x ∷ xs) d =
    let same : i + 1 + length xs ≡ i + suc (length xs) = omega arith in
    ap (decision_text names i x ++◌) (decisions_text-more names (i + 1) xs d ∙ ap (λ n. decisions_text names (i + 1) xs ++ decision_text names n d) same)
    ∙ sym (append_assoc (decision_text names i x) (decisions_text names (i + 1) xs) (decision_text names (i + suc (length xs)) d))

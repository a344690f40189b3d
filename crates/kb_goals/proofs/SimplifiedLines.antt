-- What terms are simplified to, one by one.
use Rattle.std.proofs.Common.{append-nil, append_assoc, ◌≡◌, sym, ap, ◌∙◌, arith, ℕ, suc, ◌+◌, List, [], ◌∷◌, ◌++◌, length}
use Rattle.kb_text.specs.Names.{Name}
use Rattle.kb_goals.specs.Simplifying.{simplified_line, simplified_lines}
use Rattle.kb_goals.specs.declared.simplifying.Simplified.{Simplified}

-- one more
pub simplified_lines-more : (names : List Name) (i : ℕ) (ss : List Simplified) (s : Simplified) → simplified_lines names i (ss ++ s ∷ []) ≡ simplified_lines names i ss ++ simplified_line names (i + length ss) s
simplified_lines-more names i [] s = let same : i ≡ i + 0 = omega arith in append-nil (simplified_line names i s) ∙ ap (λ n. simplified_line names n s) same
simplified_lines-more names i (x ∷ xs) s =
    let same : i + 1 + length xs ≡ i + suc (length xs) = omega arith in
    ap (simplified_line names i x ++◌) (simplified_lines-more names (i + 1) xs s ∙ ap (λ n. simplified_lines names (i + 1) xs ++ simplified_line names n s) same)
    ∙ sym (append_assoc (simplified_line names i x) (simplified_lines names (i + 1) xs) (simplified_line names (i + suc (length xs)) s))

-- The section of variables, variable by variable.
use Rattle.std.proofs.Common.{◌≡◌, ap, sym, ◌∙◌, arith, append_assoc, ℕ, zero, suc, ◌+◌, List, [], ◌∷◌, ◌++◌}
use Rattle.std.specs.Prelude.{decimal, flat_map, replicate}
use Rattle.std.specs.List.{range_with_len}
use Rattle.std.proofs.lemmas.List.{flat_map_more}
use Rattle.kb_text.specs.Terms.{prefix_length, variable_text}

pub range_push : (s n j : ℕ) → s + n ≡ j → range_with_len s (n + 1) ≡ range_with_len s n ++ j ∷ []
range_push s zero j e = let f : s ≡ j = omega arith in ap (λ k. k ∷ []) f
range_push s (suc n) j e =
    let one : suc n + 1 ≡ suc (n + 1) = omega arith in
    ap (range_with_len s) one ∙ ap (s ∷◌) (range_push (s + 1) n j (omega arith))

pub variables_more : (names : List (List ℕ)) (p n : ℕ) (old out space letters digits : List ℕ) → p ≡ prefix_length names → out ≡ old ++ flat_map (λ n. 32 ∷ variable_text names n) (range_with_len 0 n)
    → space ≡ out ++ 32 ∷ [] → letters ≡ space ++ replicate p 120 → digits ≡ letters ++ decimal (n + 1) → digits ≡ old ++ flat_map (λ n. 32 ∷ variable_text names n) (range_with_len 0 (n + 1))
variables_more names p n old out space letters digits e a b c d =
    let f = λ (n : ℕ). 32 ∷ variable_text names n in
    d ∙ ap (λ xs. xs ++ decimal (n + 1)) (c ∙ ap (λ xs. xs ++ replicate p 120) b)
    ∙ ap (λ xs. xs ++ decimal (n + 1)) (append_assoc out (32 ∷ []) (replicate p 120))
    ∙ append_assoc out (32 ∷ replicate p 120) (decimal (n + 1))
    ∙ ap (λ k. out ++ 32 ∷ (replicate k 120 ++ decimal (n + 1))) e
    ∙ ap (λ xs. xs ++ f n) a
    ∙ flat_map_more f old (range_with_len 0 n) n
    ∙ ap (λ xs. old ++ flat_map f xs) (sym (range_push 0 n n (omega arith)))

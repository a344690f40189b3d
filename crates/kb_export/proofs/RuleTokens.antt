-- The tokens of the text of rules.
use Rattle.std.proofs.Common.{◌≡◌, refl, ap, sym, ◌∙◌, arith, append-nil, append_assoc, ℕ, zero, suc, ◌+◌, ◌<◌, ◌≤◌, List, [], ◌∷◌, ◌++◌, length, get_or}
use Rattle.std.specs.Prelude.{codes, flat_map, map}
use Rattle.std.specs.List.{range_with_len}
use Rattle.kb_term.specs.Signature.{Signature, IsSignature, Problem}
use Rattle.kb_term.specs.Tree.{Tree}
use Rattle.kb_text.specs.Names.{Name}
use Rattle.kb_text.specs.Tokens.{Token, tokens, arrow, left_paren, right_paren, identifier, end_of_input}
use Rattle.kb_text.specs.Grammar.{WrittenEquation, Section, variables, rules, by_arrow, term_tokens, equation_tokens, name_tokens, text_tokens}
use Rattle.kb_text.specs.Rewritten.{written_term}
use Rattle.kb_text.specs.Terms.{names_of, variable_text, term_text}
use Rattle.kb_text.proofs.NameTokens.{IsStopped, toks, name_then}
use Rattle.kb_text.proofs.ProblemTokens.{IsBoundedEquation, term_then, variable_then}
use Rattle.kb_export.specs.RuleTexts.{arrow_line, rules_text, variable_bound_of}

-- an equation by its names, read from left to right
abbrev pub written_rule : List Name → Tree × Tree → WrittenEquation
written_rule names e = record { left = written_term names e.0; sign = by_arrow; right = written_term names e.1 }

-- a section of variables and one of rules
abbrev pub rule_sections : Problem → List Section
rule_sections p = let names = names_of p.signature in
    variables (map (variable_text names) (range_with_len 0 (variable_bound_of p.equations))) ∷ rules (map (written_rule names) p.equations) ∷ []

-- these tokens, and then those behind
abbrev Reads : ℕ → List ℕ → List Token → List ℕ → Type 0
Reads n text ts rest = (m : ℕ) × (toks n text ≡ ts ++ toks m rest)

rule_then : (signature : Signature) → IsSignature signature → (e : Tree × Tree) (n : ℕ) (rest : List ℕ) → IsBoundedEquation signature e → Reads n (arrow_line (names_of signature) e ++ rest) (equation_tokens (written_rule (names_of signature) e)) rest
rule_then signature s e n rest b =
    let names = names_of signature in
    let left = term_text names e.0 in
    let right = term_text names e.1 in
    let first = term_then signature s e.0 64 n (32 ∷ 45 ∷ 62 ∷ 32 ∷ (right ++ 10 ∷ rest)) b.0 refl in
    let m = first.0 + 1 + 1 + 1 + 1 in
    let second = term_then signature s e.1 64 m (10 ∷ rest) b.1 refl in
    let ls = term_tokens (written_term names e.0) in
    let rs = term_tokens (written_term names e.1) in (
      second.0 + 1,
      ap (toks n) (append_assoc (left ++ 32 ∷ 45 ∷ 62 ∷ 32 ∷ right) (10 ∷ []) rest ∙ append_assoc left (32 ∷ 45 ∷ 62 ∷ 32 ∷ right) (10 ∷ rest))
          ∙ first.1
          ∙ ap (λ xs. ls ++ arrow ∷ xs) second.1
          ∙ sym (append_assoc ls (arrow ∷ rs) (toks (second.0 + 1) rest)),
    )

rules_then : (signature : Signature) → IsSignature signature → (es : List (Tree × Tree)) (n : ℕ) (rest : List ℕ) → ((k : ℕ) (d : Tree × Tree) → k < length es → IsBoundedEquation signature (get_or es k d))
    → Reads n (flat_map (arrow_line (names_of signature)) es ++ rest) (flat_map equation_tokens (map (written_rule (names_of signature)) es)) rest
rules_then signature s [] n rest b = (n, refl)
rules_then signature s (e ∷ es) n rest b =
    let names = names_of signature in
    let lines = flat_map (arrow_line names) es in
    let first = rule_then signature s e n (lines ++ rest) (b 0 e (omega arith)) in
    let others = rules_then signature s es first.0 rest (λ k d l. b (suc k) d (omega arith)) in
    let es' = equation_tokens (written_rule names e) in
    let us = flat_map equation_tokens (map (written_rule names) es) in (
      others.0,
      ap (toks n) (append_assoc (arrow_line names e) lines rest) ∙ first.1 ∙ ap (es' ++◌) others.1 ∙ sym (append_assoc es' us (toks others.0 rest)),
    )

-- variables below 64, from k on
variables_stopped : (names : List Name) (count k : ℕ) (rest : List ℕ) → IsStopped rest → IsStopped (flat_map (λ n. 32 ∷ variable_text names n) (range_with_len k count) ++ rest)
variables_stopped names zero k rest h = h
variables_stopped names (suc count) k rest h = refl

variables_then : (names : List Name) (count k n : ℕ) (rest : List ℕ) → k + count ≤ 64 → IsStopped rest → Reads n (flat_map (λ n. 32 ∷ variable_text names n) (range_with_len k count) ++ rest) (name_tokens (map (variable_text names) (range_with_len k count))) rest
variables_then names zero k n rest l h = (n, refl)
variables_then names (suc count) k n rest l h =
    let tail = flat_map (λ n. 32 ∷ variable_text names n) (range_with_len (k + 1) count) in
    let m = n + 1 + length (variable_text names k) in
    let others = variables_then names count (k + 1) m rest (omega arith) h in (
      others.0,
      ap (λ xs. toks n (32 ∷ xs)) (append_assoc (variable_text names k) tail rest)
          ∙ variable_then names k (tail ++ rest) (n + 1) (omega arith) (variables_stopped names count (k + 1) rest h)
          ∙ ap (identifier (variable_text names k) ∷◌) others.1,
    )

pub rule_tokens : (p : Problem) → IsSignature p.signature → ((k : ℕ) (d : Tree × Tree) → k < length p.equations → IsBoundedEquation p.signature (get_or p.equations k d)) → variable_bound_of p.equations ≤ 64 → tokens (rules_text p) ≡ text_tokens (rule_sections p)
rule_tokens p s b few =
    ap (toks 0) shape
    ∙ ap (left_paren ∷◌) (name_then (codes "VAR") (vs ++ 41 ∷ 10 ∷ 40 ∷ (codes "RULES" ++ 10 ∷ (es ++ 41 ∷ 10 ∷ []))) 1 (omega arith) refl (variables_stopped names (variable_bound_of p.equations) 0 (41 ∷ 10 ∷ 40 ∷ (codes "RULES" ++ 10 ∷ (es ++ 41 ∷ 10 ∷ []))) refl))
    ∙ ap (λ xs. left_paren ∷ identifier (codes "VAR") ∷ xs) (first.1 ∙ ap (λ xs. xts ++ right_paren ∷ left_paren ∷ xs) (name_then (codes "RULES") (10 ∷ (es ++ 41 ∷ 10 ∷ [])) (first.0 + 1 + 1 + 1) (omega arith) refl refl))
    ∙ ap (λ xs. left_paren ∷ identifier (codes "VAR") ∷ (xts ++ right_paren ∷ left_paren ∷ identifier (codes "RULES") ∷ xs)) second.1
    ∙ grouped
  where
    names : List Name
    names = names_of p.signature

    vs : List ℕ
    vs = flat_map (λ n. 32 ∷ variable_text names n) (range_with_len 0 (variable_bound_of p.equations))

    es : List ℕ
    es = flat_map (arrow_line names) p.equations

    xts : List Token
    xts = name_tokens (map (variable_text names) (range_with_len 0 (variable_bound_of p.equations)))

    ets : List Token
    ets = flat_map equation_tokens (map (written_rule names) p.equations)

    shape : rules_text p ≡ 40 ∷ (codes "VAR" ++ (vs ++ 41 ∷ 10 ∷ 40 ∷ (codes "RULES" ++ 10 ∷ (es ++ 41 ∷ 10 ∷ []))))
    shape =
        append_assoc (((codes "(VAR" ++ vs) ++ codes ")\n") ++ codes "(RULES\n") es (codes ")\n")
        ∙ append_assoc ((codes "(VAR" ++ vs) ++ codes ")\n") (codes "(RULES\n") (es ++ codes ")\n")
        ∙ append_assoc (codes "(VAR" ++ vs) (codes ")\n") (codes "(RULES\n" ++ (es ++ codes ")\n"))
        ∙ append_assoc (codes "(VAR") vs (codes ")\n" ++ (codes "(RULES\n" ++ (es ++ codes ")\n")))

    first : Reads 4 (vs ++ 41 ∷ 10 ∷ 40 ∷ (codes "RULES" ++ 10 ∷ (es ++ 41 ∷ 10 ∷ []))) xts (41 ∷ 10 ∷ 40 ∷ (codes "RULES" ++ 10 ∷ (es ++ 41 ∷ 10 ∷ [])))
    first = variables_then names (variable_bound_of p.equations) 0 4 (41 ∷ 10 ∷ 40 ∷ (codes "RULES" ++ 10 ∷ (es ++ 41 ∷ 10 ∷ []))) (omega arith) refl

    second : Reads (first.0 + 1 + 1 + 1 + 5 + 1) (es ++ 41 ∷ 10 ∷ []) ets (41 ∷ 10 ∷ [])
    second = rules_then p.signature s p.equations (first.0 + 1 + 1 + 1 + 5 + 1) (41 ∷ 10 ∷ []) b

    grouped : left_paren ∷ identifier (codes "VAR") ∷ (xts ++ right_paren ∷ left_paren ∷ identifier (codes "RULES") ∷ (ets ++ right_paren ∷ end_of_input ∷ [])) ≡ text_tokens (rule_sections p)
    grouped =
        ap (λ xs. left_paren ∷ identifier (codes "VAR") ∷ (xts ++ right_paren ∷ left_paren ∷ identifier (codes "RULES") ∷ xs)) (sym (append_assoc ets (right_paren ∷ []) (end_of_input ∷ [])) ∙ ap (λ xs. xs ++ end_of_input ∷ []) (sym (append-nil (ets ++ right_paren ∷ []))))
        ∙ ap (λ xs. left_paren ∷ identifier (codes "VAR") ∷ xs)
        (sym (append_assoc xts (right_paren ∷ []) (left_paren ∷ identifier (codes "RULES") ∷ (((ets ++ right_paren ∷ []) ++ []) ++ end_of_input ∷ [])))
        ∙ sym (append_assoc (xts ++ right_paren ∷ []) (left_paren ∷ identifier (codes "RULES") ∷ ((ets ++ right_paren ∷ []) ++ [])) (end_of_input ∷ [])))

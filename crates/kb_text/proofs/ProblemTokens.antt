-- The tokens of written problems.
use Rattle.std.proofs.Common.{◌≡◌, refl, ap, ap₂, sym, ◌∙◌, ⊎_elim, arith, append-nil, append_assoc, ℕ, zero, suc, ◌+◌, ◌-◌, ◌/◌, ◌%◌, ◌<◌, ◌≤◌, List, [], ◌∷◌, ◌++◌, true, false, not, ◌&&◌, length, get_or, subst}
use Rattle.std.specs.Prelude.{codes, decimal, flat_map, map, replicate}
use Rattle.std.specs.List.{range_with_len}
use Rattle.std.proofs.lemmas.Bool.{cases_lt}
use Rattle.std.proofs.lemmas.Fmt.{decimal_digit}
use Rattle.std.proofs.lemmas.List.{get_or-map}
use Rattle.kb_term.specs.Identifier.{begins_otherwise, is_unbroken}
use Rattle.kb_term.specs.Signature.{Signature, SymbolEntry, IsSignature, Problem}
use Rattle.kb_term.specs.Tree.{Tree, variable, apply, Trees, no_trees, more_trees, list_of}
use Rattle.kb_text.specs.Names.{Name}
use Rattle.kb_text.specs.Tokens.{Token, tokens, equals, left_paren, right_paren, comma, identifier, end_of_input}
use Rattle.kb_text.specs.Grammar.{term_tokens, later_tokens, equation_tokens, name_tokens, text_tokens}
use Rattle.kb_text.specs.Terms.{names_of, prefix_length, variable_text, symbol_text, term_text, arguments_text, later_text, most_variables, problem_line, problem_text}
use Rattle.kb_text.specs.TermReading.{IsBounded, AreBounded}
use Rattle.kb_text.specs.Rewritten.{written_term, written_terms, written_equation, written_sections}
use Rattle.kb_text.proofs.NameTokens.{IsStopped, toks, name_then}
use Rattle.kb_text.proofs.TermTexts.{arguments_more, later_more, arity_within}
use Rattle.kb_text.proofs.VariableTexts.{two_digits, variable_longer}

-- ---- variables are names

unbroken_digit : (m : ℕ) → m < 10 → (bytes : List ℕ) → begins_otherwise ((48 + m) ∷ bytes) ≡ false
unbroken_digit zero h bytes = refl
unbroken_digit (suc zero) h bytes = refl
unbroken_digit (suc (suc zero)) h bytes = refl
unbroken_digit (suc (suc (suc zero))) h bytes = refl
unbroken_digit (suc (suc (suc (suc zero)))) h bytes = refl
unbroken_digit (suc (suc (suc (suc (suc zero))))) h bytes = refl
unbroken_digit (suc (suc (suc (suc (suc (suc zero)))))) h bytes = refl
unbroken_digit (suc (suc (suc (suc (suc (suc (suc zero))))))) h bytes = refl
unbroken_digit (suc (suc (suc (suc (suc (suc (suc (suc zero)))))))) h bytes = refl
unbroken_digit (suc (suc (suc (suc (suc (suc (suc (suc (suc zero))))))))) h bytes = refl
unbroken_digit (suc (suc (suc (suc (suc (suc (suc (suc (suc (suc m)))))))))) h bytes = absurd (omega arith)

unbroken_decimal : (m : ℕ) → m ≤ 64 → is_unbroken (decimal m) ≡ true
unbroken_decimal m h =
    ⊎_elim (λ l. ap is_unbroken (decimal_digit m l) ∙ ap (λ v. not v && true) (unbroken_digit m l []))
    (λ l. ap is_unbroken (two_digits m l (omega arith)) ∙ ap₂ (λ v w. not v && (not w && true)) (unbroken_digit (m / 10) (omega arith) ((48 + m % 10) ∷ [])) (unbroken_digit (m % 10) (omega arith) []))
    (cases_lt m 10)

unbroken_variable : (p m : ℕ) → m ≤ 64 → is_unbroken (replicate p 120 ++ decimal m) ≡ true
unbroken_variable zero m h = unbroken_decimal m h
unbroken_variable (suc p) m h = unbroken_variable p m h

-- the token of a variable
pub variable_then : (names : List Name) (k : ℕ) (rest : List ℕ) (n : ℕ) → k < 64 → IsStopped rest → toks n (variable_text names k ++ rest) ≡ identifier (variable_text names k) ∷ toks (n + length (variable_text names k)) rest
variable_then names k rest n h s =
    name_then (variable_text names k) rest n (let l = variable_longer (prefix_length names) (k + 1) (omega arith) in omega arith) (unbroken_variable (prefix_length names) (k + 1) (omega arith)) s

-- the token of a symbol
some_entry : SymbolEntry
some_entry = record { name = []; arity = 0 }

symbol_then : (signature : Signature) → IsSignature signature → (f : ℕ) (rest : List ℕ) (n : ℕ) → f < length signature → IsStopped rest → toks n (symbol_text (names_of signature) f ++ rest) ≡ identifier (symbol_text (names_of signature) f) ∷ toks (n + length (symbol_text (names_of signature) f)) rest
symbol_then signature s f rest n h k =
    let e = get_or-map (λ (e : SymbolEntry). e.name) signature f some_entry [] h in
    let name = (s.names f some_entry h).0 in
    name_then (symbol_text (names_of signature) f) rest n (subst (λ (x : Name). 0 < length x) (sym e) name.some) (ap is_unbroken e ∙ name.unbroken) k

-- ---- terms

-- so many tokens, and then those behind
abbrev Reads : ℕ → List ℕ → List Token → List ℕ → Type 0
Reads n text ts rest = (m : ℕ) × (toks n text ≡ ts ++ toks m rest)

later_stopped : (names : List Name) (ts : Trees) (rest : List ℕ) → IsStopped (later_text names ts ++ 41 ∷ rest)
later_stopped names no_trees rest = refl
later_stopped names (more_trees t ts) rest = refl

mutual
  pub term_then : (signature : Signature) → IsSignature signature → (t : Tree) (d n : ℕ) (rest : List ℕ) → IsBounded signature d t → IsStopped rest → Reads n (term_text (names_of signature) t ++ rest) (term_tokens (written_term (names_of signature) t)) rest
  term_then signature s (variable k) d n rest b st = (n + length (variable_text (names_of signature) k), variable_then (names_of signature) k rest n b.1 st)
  term_then signature s (apply f no_trees) d n rest b st =
      let names = names_of signature in (
        n + length (symbol_text names f),
        ap (λ xs. toks n (xs ++ rest)) (append-nil (symbol_text names f)) ∙ symbol_then signature s f rest n (arity_within signature f 0 b.1) st,
      )
  term_then signature s (apply f (more_trees t ts)) d n rest b st =
      let names = names_of signature in
      let tail = later_text names ts ++ 41 ∷ rest in
      let m = n + length (symbol_text names f) in
      let head = symbol_then signature s f (40 ∷ (term_text names t ++ tail)) n (arity_within signature f (length (list_of (more_trees t ts))) b.1) refl in
      let first = term_then signature s t (d - 1) (m + 1) tail b.2.0 (later_stopped names ts rest) in
      let others = later_then signature s ts (d - 1) first.0 rest b.2.1 st in
      let tt' = term_tokens (written_term names t) in
      let us = later_tokens (written_terms names ts) in (
        others.0 + 1,
        ap (toks n) (append_assoc (symbol_text names f) (arguments_text names (more_trees t ts)) rest ∙ ap (symbol_text names f ++◌) (arguments_more names t ts rest))
            ∙ head
            ∙ ap (λ xs. identifier (symbol_text names f) ∷ left_paren ∷ xs) (first.1 ∙ ap (tt' ++◌) others.1 ∙ sym (append_assoc tt' us (right_paren ∷ toks (others.0 + 1) rest)) ∙ sym (append_assoc (tt' ++ us) (right_paren ∷ []) (toks (others.0 + 1) rest))),
      )

  later_then : (signature : Signature) → IsSignature signature → (ts : Trees) (d n : ℕ) (rest : List ℕ) → AreBounded signature d ts → IsStopped rest → Reads n (later_text (names_of signature) ts ++ 41 ∷ rest) (later_tokens (written_terms (names_of signature) ts)) (41 ∷ rest)
  later_then signature s no_trees d n rest b st = (n, refl)
  later_then signature s (more_trees t ts) d n rest b st =
      let names = names_of signature in
      let first = term_then signature s t d (n + 1) (later_text names ts ++ 41 ∷ rest) b.0 (later_stopped names ts rest) in
      let others = later_then signature s ts d first.0 rest b.1 st in
      let tt' = term_tokens (written_term names t) in
      let us = later_tokens (written_terms names ts) in (
        others.0,
        ap (toks n) (later_more names t ts (41 ∷ rest))
            ∙ ap (comma ∷◌) (first.1 ∙ ap (tt' ++◌) others.1 ∙ sym (append_assoc tt' us (toks others.0 (41 ∷ rest)))),
      )

-- ---- equations and variables

abbrev pub IsBoundedEquation : Signature → Tree × Tree → Type 0
IsBoundedEquation signature e = IsBounded signature 64 e.0 × IsBounded signature 64 e.1

equation_then : (signature : Signature) → IsSignature signature → (e : Tree × Tree) (n : ℕ) (rest : List ℕ) → IsBoundedEquation signature e → Reads n (problem_line (names_of signature) e ++ rest) (equation_tokens (written_equation (names_of signature) e)) rest
equation_then signature s e n rest b =
    let names = names_of signature in
    let left = term_text names e.0 in
    let right = term_text names e.1 in
    let first = term_then signature s e.0 64 n (32 ∷ 61 ∷ 61 ∷ 32 ∷ (right ++ 10 ∷ rest)) b.0 refl in
    let m = first.0 + 1 + 1 + 1 + 1 in
    let second = term_then signature s e.1 64 m (10 ∷ rest) b.1 refl in
    let ls = term_tokens (written_term names e.0) in
    let rs = term_tokens (written_term names e.1) in (
      second.0 + 1,
      ap (toks n) (append_assoc (left ++ 32 ∷ 61 ∷ 61 ∷ 32 ∷ right) (10 ∷ []) rest ∙ append_assoc left (32 ∷ 61 ∷ 61 ∷ 32 ∷ right) (10 ∷ rest))
          ∙ first.1
          ∙ ap (λ xs. ls ++ equals ∷ xs) second.1
          ∙ sym (append_assoc ls (equals ∷ rs) (toks (second.0 + 1) rest)),
    )

equations_then : (signature : Signature) → IsSignature signature → (es : List (Tree × Tree)) (n : ℕ) (rest : List ℕ) → ((k : ℕ) (d : Tree × Tree) → k < length es → IsBoundedEquation signature (get_or es k d))
    → Reads n (flat_map (problem_line (names_of signature)) es ++ rest) (flat_map equation_tokens (map (written_equation (names_of signature)) es)) rest
equations_then signature s [] n rest b = (n, refl)
equations_then signature s (e ∷ es) n rest b =
    let names = names_of signature in
    let lines = flat_map (problem_line names) es in
    let first = equation_then signature s e n (lines ++ rest) (b 0 e (omega arith)) in
    let others = equations_then signature s es first.0 rest (λ k d l. b (suc k) d (omega arith)) in
    let es' = equation_tokens (written_equation names e) in
    let us = flat_map equation_tokens (map (written_equation names) es) in (
      others.0,
      ap (toks n) (append_assoc (problem_line names e) lines rest) ∙ first.1 ∙ ap (es' ++◌) others.1 ∙ sym (append_assoc es' us (toks others.0 rest)),
    )

-- variables below 64, from k on
variables_stopped : (names : List Name) (count k : ℕ) (rest : List ℕ) → IsStopped rest → IsStopped (flat_map (λ n. 32 ∷ variable_text names n) (range_with_len k count) ++ rest)
variables_stopped names zero k rest h = h
variables_stopped names (suc count) k rest h = refl

variables_then : (names : List Name) (count k n : ℕ) (rest : List ℕ) → k + count ≤ 64 → IsStopped rest → Reads n (flat_map (λ n. 32 ∷ variable_text names n) (range_with_len k count) ++ rest) (name_tokens (map (variable_text names) (range_with_len k count))) rest
variables_then names zero k n rest l h = (n, refl)
variables_then names (suc count) k n rest l h =
    let tail = flat_map (λ n. 32 ∷ variable_text names n) (range_with_len (k + 1) count) in
    let m = n + 1 + length (variable_text names k) in
    let others = variables_then names count (k + 1) m rest (omega arith) h in (
      others.0,
      ap (λ xs. toks n (32 ∷ xs)) (append_assoc (variable_text names k) tail rest)
          ∙ variable_then names k (tail ++ rest) (n + 1) (omega arith) (variables_stopped names count (k + 1) rest h)
          ∙ ap (identifier (variable_text names k) ∷◌) others.1,
    )

-- ---- the whole

pub problem_tokens : (p : Problem) → IsSignature p.signature → ((k : ℕ) (d : Tree × Tree) → k < length p.equations → IsBoundedEquation p.signature (get_or p.equations k d)) → most_variables p.equations ≤ 64 → tokens (problem_text p) ≡ text_tokens (written_sections p)
problem_tokens p s b few =
    ap (toks 0) shape
    ∙ ap (left_paren ∷◌) (name_then (codes "VAR") (vs ++ 41 ∷ 10 ∷ 40 ∷ (codes "RULES" ++ 10 ∷ (es ++ 41 ∷ 10 ∷ []))) 1 (omega arith) refl (variables_stopped names (most_variables p.equations) 0 (41 ∷ 10 ∷ 40 ∷ (codes "RULES" ++ 10 ∷ (es ++ 41 ∷ 10 ∷ []))) refl))
    ∙ ap (λ xs. left_paren ∷ identifier (codes "VAR") ∷ xs) (first.1 ∙ ap (λ xs. xts ++ right_paren ∷ left_paren ∷ xs) (name_then (codes "RULES") (10 ∷ (es ++ 41 ∷ 10 ∷ [])) (first.0 + 1 + 1 + 1) (omega arith) refl refl))
    ∙ ap (λ xs. left_paren ∷ identifier (codes "VAR") ∷ (xts ++ right_paren ∷ left_paren ∷ identifier (codes "RULES") ∷ xs)) second.1
    ∙ grouped
  where
    names : List Name
    names = names_of p.signature

    vs : List ℕ
    vs = flat_map (λ n. 32 ∷ variable_text names n) (range_with_len 0 (most_variables p.equations))

    es : List ℕ
    es = flat_map (problem_line names) p.equations

    xts : List Token
    xts = name_tokens (map (variable_text names) (range_with_len 0 (most_variables p.equations)))

    ets : List Token
    ets = flat_map equation_tokens (map (written_equation names) p.equations)

    shape : problem_text p ≡ 40 ∷ (codes "VAR" ++ (vs ++ 41 ∷ 10 ∷ 40 ∷ (codes "RULES" ++ 10 ∷ (es ++ 41 ∷ 10 ∷ []))))
    shape =
        append_assoc (((codes "(VAR" ++ vs) ++ codes ")\n") ++ codes "(RULES\n") es (codes ")\n")
        ∙ append_assoc ((codes "(VAR" ++ vs) ++ codes ")\n") (codes "(RULES\n") (es ++ codes ")\n")
        ∙ append_assoc (codes "(VAR" ++ vs) (codes ")\n") (codes "(RULES\n" ++ (es ++ codes ")\n"))
        ∙ append_assoc (codes "(VAR") vs (codes ")\n" ++ (codes "(RULES\n" ++ (es ++ codes ")\n")))

    first : Reads 4 (vs ++ 41 ∷ 10 ∷ 40 ∷ (codes "RULES" ++ 10 ∷ (es ++ 41 ∷ 10 ∷ []))) xts (41 ∷ 10 ∷ 40 ∷ (codes "RULES" ++ 10 ∷ (es ++ 41 ∷ 10 ∷ [])))
    first = variables_then names (most_variables p.equations) 0 4 (41 ∷ 10 ∷ 40 ∷ (codes "RULES" ++ 10 ∷ (es ++ 41 ∷ 10 ∷ []))) (omega arith) refl

    second : Reads (first.0 + 1 + 1 + 1 + 5 + 1) (es ++ 41 ∷ 10 ∷ []) ets (41 ∷ 10 ∷ [])
    second = equations_then p.signature s p.equations (first.0 + 1 + 1 + 1 + 5 + 1) (41 ∷ 10 ∷ []) b

    grouped : left_paren ∷ identifier (codes "VAR") ∷ (xts ++ right_paren ∷ left_paren ∷ identifier (codes "RULES") ∷ (ets ++ right_paren ∷ end_of_input ∷ [])) ≡ text_tokens (written_sections p)
    grouped =
        ap (λ xs. left_paren ∷ identifier (codes "VAR") ∷ (xts ++ right_paren ∷ left_paren ∷ identifier (codes "RULES") ∷ xs)) (sym (append_assoc ets (right_paren ∷ []) (end_of_input ∷ [])) ∙ ap (λ xs. xs ++ end_of_input ∷ []) (sym (append-nil (ets ++ right_paren ∷ []))))
        ∙ ap (λ xs. left_paren ∷ identifier (codes "VAR") ∷ xs)
        (sym (append_assoc xts (right_paren ∷ []) (left_paren ∷ identifier (codes "RULES") ∷ (((ets ++ right_paren ∷ []) ++ []) ++ end_of_input ∷ [])))
        ∙ sym (append_assoc (xts ++ right_paren ∷ []) (left_paren ∷ identifier (codes "RULES") ∷ ((ets ++ right_paren ∷ []) ++ [])) (end_of_input ∷ [])))

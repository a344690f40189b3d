-- The text of rules is UTF-8.
use Rattle.std.proofs.Common.{refl, sym, subst, arith, ℕ, zero, suc, ◌+◌, ◌-◌, ◌<◌, ◌≤◌, List, [], ◌∷◌, ◌++◌, length, get_or}
use Rattle.std.specs.Prelude.{IsUtf8, codes, decimal, flat_map, replicate}
use Rattle.std.specs.List.{range_with_len}
use Rattle.std.proofs.lemmas.Fmt.{IsAscii-decimal}
use Rattle.std.proofs.lemmas.List.{get_or-map}
use Rattle.std.proofs.lemmas.Str.{IsUtf8-append, IsUtf8-from_ascii, IsUtf8-nil}
use Rattle.kb_lemmas.proofs.Texts.{ascii_utf8, letters_utf8}
use Rattle.kb_term.specs.Signature.{Signature, SymbolEntry, IsSignature, Problem}
use Rattle.kb_term.specs.Tree.{Tree, variable, apply, Trees, no_trees, more_trees, list_of}
use Rattle.kb_text.specs.Names.{Name}
use Rattle.kb_text.specs.Terms.{names_of, prefix_length, variable_text, symbol_text, term_text, arguments_text, later_text}
use Rattle.kb_text.specs.TermReading.{IsBounded, AreBounded}
use Rattle.kb_text.proofs.ProblemTokens.{IsBoundedEquation}
use Rattle.kb_text.proofs.TermTexts.{arity_within}
use Rattle.kb_export.specs.RuleTexts.{arrow_line, rules_text, variable_bound_of}

variable_utf8 : (names : List Name) (k : ℕ) → k < 64 → IsUtf8 (variable_text names k)
variable_utf8 names k h = IsUtf8-append (replicate (prefix_length names) 120) (decimal (k + 1)) (letters_utf8 (prefix_length names)) (IsUtf8-from_ascii (decimal (k + 1)) (IsAscii-decimal (k + 1) (omega arith)))

some_entry : SymbolEntry
some_entry = record { name = []; arity = 0 }

symbol_utf8 : (signature : Signature) → IsSignature signature → (f : ℕ) → f < length signature → IsUtf8 (symbol_text (names_of signature) f)
symbol_utf8 signature s f h = subst IsUtf8 (sym (get_or-map (λ (e : SymbolEntry). e.name) signature f some_entry [] h)) (s.names f some_entry h).0.utf8

mutual
  term_utf8 : (signature : Signature) → IsSignature signature → (t : Tree) (d : ℕ) → IsBounded signature d t → IsUtf8 (term_text (names_of signature) t)
  term_utf8 signature s (variable k) d b = variable_utf8 (names_of signature) k b.1
  term_utf8 signature s (apply f no_trees) d b = IsUtf8-append (symbol_text (names_of signature) f) [] (symbol_utf8 signature s f (arity_within signature f 0 b.1)) IsUtf8-nil
  term_utf8 signature s (apply f (more_trees t ts)) d b =
      let names = names_of signature in
      IsUtf8-append (symbol_text names f) (arguments_text names (more_trees t ts)) (symbol_utf8 signature s f (arity_within signature f (length (list_of (more_trees t ts))) b.1))
      (IsUtf8-append (40 ∷ (term_text names t ++ later_text names ts)) (41 ∷ []) (IsUtf8-append (40 ∷ term_text names t) (later_text names ts) (IsUtf8-append (40 ∷ []) (term_text names t) (ascii_utf8 (40 ∷ []) refl) (term_utf8 signature s t (d - 1) b.2.0)) (later_utf8 signature s ts (d - 1) b.2.1)) (ascii_utf8 (41 ∷ []) refl))

  later_utf8 : (signature : Signature) → IsSignature signature → (ts : Trees) (d : ℕ) → AreBounded signature d ts → IsUtf8 (later_text (names_of signature) ts)
  later_utf8 signature s no_trees d b = IsUtf8-nil
  later_utf8 signature s (more_trees t ts) d b =
      let names = names_of signature in
      IsUtf8-append (44 ∷ term_text names t) (later_text names ts) (IsUtf8-append (44 ∷ []) (term_text names t) (ascii_utf8 (44 ∷ []) refl) (term_utf8 signature s t d b.0)) (later_utf8 signature s ts d b.1)

line_utf8 : (signature : Signature) → IsSignature signature → (e : Tree × Tree) → IsBoundedEquation signature e → IsUtf8 (arrow_line (names_of signature) e)
line_utf8 signature s e b =
    let names = names_of signature in
    IsUtf8-append (term_text names e.0 ++ 32 ∷ 45 ∷ 62 ∷ 32 ∷ term_text names e.1) (10 ∷ [])
    (IsUtf8-append (term_text names e.0) (32 ∷ 45 ∷ 62 ∷ 32 ∷ term_text names e.1) (term_utf8 signature s e.0 64 b.0) (IsUtf8-append (32 ∷ 45 ∷ 62 ∷ 32 ∷ []) (term_text names e.1) (ascii_utf8 (32 ∷ 45 ∷ 62 ∷ 32 ∷ []) refl) (term_utf8 signature s e.1 64 b.1)))
    (ascii_utf8 (10 ∷ []) refl)

lines_utf8 : (signature : Signature) → IsSignature signature → (es : List (Tree × Tree)) → ((k : ℕ) (d : Tree × Tree) → k < length es → IsBoundedEquation signature (get_or es k d)) → IsUtf8 (flat_map (arrow_line (names_of signature)) es)
lines_utf8 signature s [] b = IsUtf8-nil
lines_utf8 signature s (e ∷ es) b = IsUtf8-append (arrow_line (names_of signature) e) (flat_map (arrow_line (names_of signature)) es) (line_utf8 signature s e (b 0 e (omega arith))) (lines_utf8 signature s es (λ k d l. b (suc k) d (omega arith)))

variables_utf8 : (names : List Name) (count k : ℕ) → k + count ≤ 64 → IsUtf8 (flat_map (λ n. 32 ∷ variable_text names n) (range_with_len k count))
variables_utf8 names zero k l = IsUtf8-nil
variables_utf8 names (suc count) k l =
    IsUtf8-append (32 ∷ variable_text names k) (flat_map (λ n. 32 ∷ variable_text names n) (range_with_len (k + 1) count)) (IsUtf8-append (32 ∷ []) (variable_text names k) (ascii_utf8 (32 ∷ []) refl) (variable_utf8 names k (omega arith))) (variables_utf8 names count (k + 1) (omega arith))

pub rules_utf8 : (p : Problem) → IsSignature p.signature → ((k : ℕ) (d : Tree × Tree) → k < length p.equations → IsBoundedEquation p.signature (get_or p.equations k d)) → variable_bound_of p.equations ≤ 64 → IsUtf8 (rules_text p)
rules_utf8 p s b few =
    let names = names_of p.signature in
    let vs = flat_map (λ n. 32 ∷ variable_text names n) (range_with_len 0 (variable_bound_of p.equations)) in
    let es = flat_map (arrow_line names) p.equations in
    IsUtf8-append ((((codes "(VAR" ++ vs) ++ codes ")\n") ++ codes "(RULES\n") ++ es) (codes ")\n")
    (IsUtf8-append (((codes "(VAR" ++ vs) ++ codes ")\n") ++ codes "(RULES\n") es
    (IsUtf8-append ((codes "(VAR" ++ vs) ++ codes ")\n") (codes "(RULES\n")
    (IsUtf8-append (codes "(VAR" ++ vs) (codes ")\n")
    (IsUtf8-append (codes "(VAR") vs (ascii_utf8 (codes "(VAR") refl) (variables_utf8 names (variable_bound_of p.equations) 0 (omega arith)))
    (ascii_utf8 (codes ")\n") refl))
    (ascii_utf8 (codes "(RULES\n") refl))
    (lines_utf8 p.signature s p.equations b))
    (ascii_utf8 (codes ")\n") refl)

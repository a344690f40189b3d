-- Arguments of written terms as lists, and how many tokens they have.
use Rattle.std.proofs.Common.{append-nil, append_assoc, ◌≡◌, refl, ap, sym, ◌∙◌, arith, ℕ, zero, suc, ◌+◌, ◌<◌, List, [], ◌∷◌, ◌++◌, length, length-append, get_or, take}
use Rattle.std.specs.Prelude.{map}
use Rattle.std.proofs.lemmas.List.Elements.{filter-append}
use Rattle.kb_term.specs.Tree.{more_trees, trees_of}
use Rattle.kb_text.specs.Names.{Name, is_among, firsts, with_name}
use Rattle.kb_text.specs.Tokens.{comma}
use Rattle.kb_text.specs.Grammar.{Arguments, applied, term_tokens}
use Rattle.kb_text.specs.Fronts.{followed_tokens}
use Rattle.kb_text.specs.Problems.{count_of, names_in, names_in_all, term_of, terms_of, variables_among}
use Rattle.kb_text.specs.Written.{arguments_of}
use Rattle.kb_text.proofs.Firsts.{firsts-push}
use Rattle.kb_text.proofs.TokenCounts.{applied_count}
use Rattle.kb_syntax.specs.Looks.{with_names}
use Rattle.kb_syntax.specs.Written.{written_of}
use Rattle.kb_syntax.specs.declared.written.WrittenTerm.{WrittenTerm}

abbrev pub args : List WrittenTerm → Arguments
args ts = arguments_of (map written_of ts)

pub count_of-args : (ts : List WrittenTerm) → count_of (args ts) ≡ length ts
count_of-args [] = refl
count_of-args (t ∷ ts) = omega (arith, count_of-args ts)

pub terms-of : (vars symbols : List Name) (ts : List WrittenTerm) → terms_of vars symbols (args ts) ≡ trees_of (map (λ u. term_of vars symbols (written_of u)) ts)
terms-of vars symbols [] = refl
terms-of vars symbols (t ∷ ts) = ap (more_trees (term_of vars symbols (written_of t))) (terms-of vars symbols ts)

-- one argument more, with its comma
pub followed_count : (ts : List WrittenTerm) (i : ℕ) (d : WrittenTerm) → i < length ts → length (followed_tokens (args (take (i + 1) ts))) ≡ length (followed_tokens (args (take i ts))) + (length (term_tokens (written_of (get_or ts i d))) + 1)
followed_count [] i d h = absurd (omega arith)
followed_count (t ∷ ts) zero d h = omega (arith, length-append (term_tokens (written_of t)) (comma ∷ []))
followed_count (t ∷ ts) (suc i) d h =
    let e : suc i + 1 ≡ suc (i + 1) = omega arith in
    rw e (omega (arith, followed_count ts i d (omega arith), length-append (term_tokens (written_of t)) (comma ∷ followed_tokens (args (take (i + 1) ts))), length-append (term_tokens (written_of t)) (comma ∷ followed_tokens (args (take i ts)))))

-- arguments in parentheses, by their tokens with a comma behind each
pub applied_some : (f : Name) (ts : List WrittenTerm) → (length ts ≡ 0 → ⊥) → length (term_tokens (applied f (args ts))) ≡ length (followed_tokens (args ts)) + 2
applied_some f [] h = absurd (h refl)
applied_some f (t ∷ ts) h = applied_count f (written_of t) (args ts)

pub applied_none : (f : Name) (ts : List WrittenTerm) → length ts ≡ 0 → length (term_tokens (applied f (args ts))) ≡ 3
applied_none f [] h = refl
applied_none f (t ∷ ts) h = absurd (omega arith)

-- one argument more
pub names_list_more : (ts : List WrittenTerm) (i : ℕ) (d : WrittenTerm) → i < length ts → names_in_all (args (take (i + 1) ts)) ≡ names_in_all (args (take i ts)) ++ names_in (written_of (get_or ts i d))
names_list_more [] i d h = absurd (omega arith)
names_list_more (t ∷ ts) zero d h = append-nil _
names_list_more (t ∷ ts) (suc i) d h =
    let e : suc i + 1 ≡ suc (i + 1) = omega arith in
    rw e (ap (names_in (written_of t) ++◌) (names_list_more ts i d (omega arith)) ∙ sym (append_assoc (names_in (written_of t)) _ _))

-- names are added one list behind the other
with_names-append : (ns xs ys : List Name) → with_names ns (xs ++ ys) ≡ with_names (with_names ns xs) ys
with_names-append ns [] ys = refl
with_names-append ns (x ∷ xs) ys = with_names-append (with_name ns x) xs ys

pub with_names-among : (vars ns xs ys : List Name) → with_names ns (variables_among vars (xs ++ ys)) ≡ with_names (with_names ns (variables_among vars xs)) (variables_among vars ys)
with_names-among vars ns xs ys = ap (with_names ns) (filter-append (is_among vars) xs ys) ∙ with_names-append ns (variables_among vars xs) (variables_among vars ys)

-- the different names with one more
pub with_name-firsts : (names xs : List Name) (x : Name) → names ≡ firsts xs → with_name names x ≡ firsts (xs ++ x ∷ [])
with_name-firsts names xs x e = ap (λ (ns : List Name). with_name ns x) e ∙ sym (firsts-push xs x)

-- the different names are those that are added to none
with_names-firsts : (ns vs xs : List Name) → ns ≡ firsts vs → with_names ns xs ≡ firsts (vs ++ xs)
with_names-firsts ns vs [] e = e ∙ ap firsts (sym (append-nil vs))
with_names-firsts ns vs (x ∷ xs) e = with_names-firsts (with_name ns x) (vs ++ x ∷ []) xs (with_name-firsts ns vs x e) ∙ ap firsts (append_assoc vs (x ∷ []) xs)

pub names-firsts : (xs : List Name) → with_names [] xs ≡ firsts xs
names-firsts xs = with_names-firsts [] [] xs refl

-- The text of a problem that is spelled spells it.
use Rattle.std.proofs.Common.{◌≡◌, refl, ap, ap₂, sym, ◌∙◌, arith, ℕ, zero, suc, ◌<◌, ◌≤◌, List, [], ◌∷◌, ◌++◌, Bool, true, false, not, ◌&&◌, ◌||◌, cond, length, get_or, Option, Some}
use Rattle.std.specs.Prelude.{bytes_eq, filter, map, nat_eq, nat_le, unwrap_or}
use Rattle.std.specs.List.{list_all}
use Rattle.std.proofs.lemmas.Bool.{false≢true, eqb-true, and_parts}
use Rattle.std.proofs.lemmas.List.{length-map, map-append}
use Rattle.std.proofs.lemmas.List.Elements.{filter-append}
use Rattle.std.proofs.Math.Bool.{or-true}
use Rattle.kb_lemmas.proofs.Lists.{all_join}
use Rattle.kb_term.specs.Tree.{Tree}
use Rattle.kb_text.specs.Names.{Name, is_among, number_of, firsts}
use Rattle.kb_text.specs.Grammar.{Written, alone, applied, Arguments, no_arguments, argument, WrittenEquation}
use Rattle.kb_text.specs.Problems.{names_in, names_in_all, uses_in, uses_in_all, count_of, arity_in, depth_in, is_unapplied, sides_of, all_names, all_uses, term_of, equation_variables, equation_of, entry_of}
use Rattle.kb_text.specs.Terms.{variable_text}
use Rattle.kb_text.specs.Rewritten.{written_term, written_equation}
use Rattle.kb_text.proofs.Firsts.{same_bytes}
use Rattle.kb_text.proofs.ProblemTokens.{IsBoundedEquation}
use Rattle.kb_text.proofs.RewrittenTerms.{IsGood, AreGood, AreApart, renamed, renamed_use, is_good, good_symbol, good_variable, first_good, others_good, arguments_good, head_symbol, all_split, names_again, uses_again, depth_again, unapplied_again, term_again, term_bounded, number_within}
use Rattle.kb_text.proofs.RewrittenLists.{Covers, apart_again, firsts_again, keeps_numbers, no_symbol_is_variable, same_name, symbols_again, variables_again}
use Rattle.kb_text.proofs.RewrittenEquations.{IsGoodEquation, AreGoodEquations, HaveAtMost, agrees, all_found}

-- the equations, read and written again
abbrev pub rewritten : List Name → List Name → List WrittenEquation → List WrittenEquation
rewritten vars symbols es = map (written_equation symbols) (map (equation_of vars symbols) es)

-- the variables that are declared in the text that is written
pub record IsDeclared (symbols xs : List Name) (most : ℕ) : Type 0 where
  pub apart : AreApart symbols xs
  pub covers : (k : ℕ) → k < most → is_among xs (variable_text symbols k) ≡ true

covering : (symbols found xs : List Name) (most : ℕ) → IsDeclared symbols xs most → length found ≤ most → Covers symbols found xs
covering symbols found xs most d l = record { apart = d.apart; covers = λ k h. d.covers k (omega arith) }

-- ---- symbols and variables

pub all_symbols_again : (vars symbols xs : List Name) (uses : List (Name × ℕ)) (most : ℕ) (es : List WrittenEquation) → AreGoodEquations vars symbols uses es → IsDeclared symbols xs most → HaveAtMost vars most es
    → filter (λ x. not (is_among xs x)) (all_names (rewritten vars symbols es)) ≡ filter (λ x. not (is_among vars x)) (all_names es)
all_symbols_again vars symbols xs uses most [] g d m = refl
all_symbols_again vars symbols xs uses most (e ∷ es) g d m =
    let found = equation_variables vars e in
    let cover = covering symbols found xs most d m.0 in
    let p = λ (x : Name). not (is_among xs x) in
    let q = λ (x : Name). not (is_among vars x) in
    let rest' = all_names (rewritten vars symbols es) in
    let r' = names_in (written_term symbols (term_of found symbols e.right)) in
    ap (filter p) (ap₂ (λ l r. l ++ (r ++ rest')) (names_again vars found symbols uses e.left g.0.left) (names_again vars found symbols uses e.right g.0.right))
    ∙ filter-append p (map (renamed symbols found) (names_in e.left)) (map (renamed symbols found) (names_in e.right) ++ rest')
    ∙ ap (filter p (map (renamed symbols found) (names_in e.left)) ++◌) (filter-append p (map (renamed symbols found) (names_in e.right)) rest')
    ∙ (λ i. symbols_again vars found symbols xs (names_in e.left) cover g.0.left.names i ++ (symbols_again vars found symbols xs (names_in e.right) cover g.0.right.names i ++ all_symbols_again vars symbols xs uses most es g.1 d m.1 i))
    ∙ ap (filter q (names_in e.left) ++◌) (sym (filter-append q (names_in e.right) (all_names es)))
    ∙ sym (filter-append q (names_in e.left) (names_in e.right ++ all_names es))

pub found_again : (vars symbols xs : List Name) (uses : List (Name × ℕ)) (most : ℕ) (e : WrittenEquation) → IsGoodEquation vars symbols uses e → IsDeclared symbols xs most → length (equation_variables vars e) ≤ most
    → equation_variables xs (written_equation symbols (equation_of vars symbols e)) ≡ map (renamed symbols (equation_variables vars e)) (equation_variables vars e)
found_again vars symbols xs uses most e g d m =
    let found = equation_variables vars e in
    let ns = names_in e.left ++ names_in e.right in
    ap (λ zs. firsts (filter (is_among xs) zs)) (ap₂ ◌++◌ (names_again vars found symbols uses e.left g.left) (names_again vars found symbols uses e.right g.right) ∙ sym (map-append (renamed symbols found) (names_in e.left) (names_in e.right)))
    ∙ ap firsts (variables_again vars found symbols xs ns (covering symbols found xs most d m) (all_join (is_good vars found symbols) (names_in e.left) (names_in e.right) g.left.names g.right.names))
    ∙ firsts_again symbols found (filter (is_among vars) ns) g.few (all_found vars ns)

pub equations_again : (vars symbols xs : List Name) (uses : List (Name × ℕ)) (most : ℕ) (es : List WrittenEquation) → AreGoodEquations vars symbols uses es → IsDeclared symbols xs most → HaveAtMost vars most es
    → map (equation_of xs symbols) (rewritten vars symbols es) ≡ map (equation_of vars symbols) es
equations_again vars symbols xs uses most [] g d m = refl
equations_again vars symbols xs uses most (e ∷ es) g d m =
    let found = equation_variables vars e in
    let again = map (renamed symbols found) found in
    let apart = apart_again symbols found g.0.few in
    let keeps = keeps_numbers symbols found g.0.few in
    let l = written_term symbols (term_of found symbols e.left) in
    let r = written_term symbols (term_of found symbols e.right) in
    ap₂ (λ z zs. z ∷ zs)
    (ap (λ vs. (term_of vs symbols l, term_of vs symbols r)) (found_again vars symbols xs uses most e g.0 d m.0)
    ∙ (λ i. (term_again vars found symbols again uses e.left g.0.left apart keeps i, term_again vars found symbols again uses e.right g.0.right apart keeps i)))
    (equations_again vars symbols xs uses most es g.1 d m.1)

pub unapplied_sides : (vars symbols xs : List Name) (uses : List (Name × ℕ)) (es : List WrittenEquation) → AreGoodEquations vars symbols uses es → AreApart symbols xs → list_all (is_unapplied xs) (sides_of (rewritten vars symbols es)) ≡ true
unapplied_sides vars symbols xs uses [] g a = refl
unapplied_sides vars symbols xs uses (e ∷ es) g a =
    let found = equation_variables vars e in
    λ i. unapplied_again vars found symbols xs uses e.left g.0.left a i && (unapplied_again vars found symbols xs uses e.right g.0.right a i && unapplied_sides vars symbols xs uses es g.1 a i)

pub depths_again : (vars symbols : List Name) (uses : List (Name × ℕ)) (es : List WrittenEquation) → AreGoodEquations vars symbols uses es → list_all (λ t. nat_le (depth_in t) 64) (sides_of (rewritten vars symbols es)) ≡ list_all (λ t. nat_le (depth_in t) 64) (sides_of es)
depths_again vars symbols uses [] g = refl
depths_again vars symbols uses (e ∷ es) g =
    let found = equation_variables vars e in
    λ i. nat_le (depth_again vars found symbols uses e.left g.0.left i) 64 && (nat_le (depth_again vars found symbols uses e.right g.0.right i) 64 && depths_again vars symbols uses es g.1 i)

size_again : (vars found symbols : List Name) (uses : List (Name × ℕ)) (t : Written) → IsGood vars found symbols uses t → length (names_in (written_term symbols (term_of found symbols t))) ≡ length (names_in t)
size_again vars found symbols uses t g = ap length (names_again vars found symbols uses t g) ∙ length-map (names_in t) (renamed symbols found)

pub sizes_again : (vars symbols : List Name) (uses : List (Name × ℕ)) (es : List WrittenEquation) → AreGoodEquations vars symbols uses es → list_all (λ t. nat_le (length (names_in t)) 512) (sides_of (rewritten vars symbols es)) ≡ list_all (λ t. nat_le (length (names_in t)) 512) (sides_of es)
sizes_again vars symbols uses [] g = refl
sizes_again vars symbols uses (e ∷ es) g =
    let found = equation_variables vars e in
    λ i. nat_le (size_again vars found symbols uses e.left g.0.left i) 512 && (nat_le (size_again vars found symbols uses e.right g.0.right i) 512 && sizes_again vars symbols uses es g.1 i)

pub variables_each_again : (vars symbols xs : List Name) (uses : List (Name × ℕ)) (most : ℕ) (es : List WrittenEquation) → AreGoodEquations vars symbols uses es → IsDeclared symbols xs most → HaveAtMost vars most es
    → list_all (λ e. nat_le (length (equation_variables xs e)) 64) (rewritten vars symbols es) ≡ list_all (λ e. nat_le (length (equation_variables vars e)) 64) es
variables_each_again vars symbols xs uses most [] g d m = refl
variables_each_again vars symbols xs uses most (e ∷ es) g d m =
    let found = equation_variables vars e in
    let count : length (equation_variables xs (written_equation symbols (equation_of vars symbols e))) ≡ length found = ap length (found_again vars symbols xs uses most e g.0 d m.0) ∙ length-map found (renamed symbols found) in
    λ i. nat_le (count i) 64 && variables_each_again vars symbols xs uses most es g.1 d m.1 i

-- ---- uses

-- a good name; a variable has no arguments
abbrev is_fine : List Name → List Name → List Name → Name × ℕ → Bool
is_fine vars found symbols u = is_good vars found symbols u.0 && (not (is_among vars u.0) || nat_eq u.1 0)

mutual
  fine_uses : (vars found symbols : List Name) (uses : List (Name × ℕ)) (t : Written) → IsGood vars found symbols uses t → list_all (is_fine vars found symbols) (uses_in t) ≡ true
  fine_uses vars found symbols uses (alone c) h = λ i. ((and_parts (is_good vars found symbols c) true h.names).0 i && or-true (not (is_among vars c)) i) && true
  fine_uses vars found symbols uses (applied f ts) h =
      all_join (is_fine vars found symbols) (uses_in_all ts) ((f, count_of ts) ∷ []) (fine_uses_all vars found symbols uses ts (arguments_good vars found symbols uses f ts h))
      (λ i. ((and_parts (is_good vars found symbols f) (list_all (is_good vars found symbols) (names_in_all ts)) h.names).0 i && (not ((head_symbol vars found symbols uses f ts h).no_variable i) || nat_eq (count_of ts) 0)) && true)

  fine_uses_all : (vars found symbols : List Name) (uses : List (Name × ℕ)) (ts : Arguments) → AreGood vars found symbols uses ts → list_all (is_fine vars found symbols) (uses_in_all ts) ≡ true
  fine_uses_all vars found symbols uses no_arguments h = refl
  fine_uses_all vars found symbols uses (argument t ts) h =
      all_join (is_fine vars found symbols) (uses_in t) (uses_in_all ts) (fine_uses vars found symbols uses t (first_good vars found symbols uses t ts h)) (fine_uses_all vars found symbols uses ts (others_good vars found symbols uses t ts h))

-- a symbol's name is told from names as before
symbol_test : (vars found symbols : List Name) (x n : Name) → length found ≤ 64 → is_good vars found symbols n ≡ true → is_among symbols x ≡ true → is_among vars x ≡ false → bytes_eq x (renamed symbols found n) ≡ bytes_eq x n
symbol_test vars found symbols x n few g s v = go (is_among found n) refl
  where
    differ : is_among vars n ≡ true → (b : Bool) → bytes_eq x n ≡ b → b ≡ false
    differ k true e = absurd (false≢true (sym v ∙ ap (is_among vars) (same_bytes x n e) ∙ k))
    differ k false e = refl

    go : (b : Bool) → is_among found n ≡ b → bytes_eq x (cond (is_among found n) (variable_text symbols (number_of found n)) n) ≡ bytes_eq x n
    go true e =
        let l = number_within found n e in
        ap (λ b. bytes_eq x (cond b (variable_text symbols (number_of found n)) n)) e ∙ no_symbol_is_variable symbols x (number_of found n) s (omega arith) ∙ sym (differ (good_variable vars found symbols n g e) (bytes_eq x n) refl)
    go false e = ap (λ b. bytes_eq x (cond b (variable_text symbols (number_of found n)) n)) e

arity_part : (vars found symbols : List Name) (x : Name) (us vs ws : List (Name × ℕ)) → length found ≤ 64 → list_all (is_fine vars found symbols) us ≡ true → is_among symbols x ≡ true → is_among vars x ≡ false → arity_in vs x ≡ arity_in ws x → arity_in (map (renamed_use symbols found) us ++ vs) x ≡ arity_in (us ++ ws) x
arity_part vars found symbols x [] vs ws few f s v e = e
arity_part vars found symbols x (u ∷ us) vs ws few f s v e =
    let r = and_parts (is_fine vars found symbols u) (list_all (is_fine vars found symbols) us) f in
    let g = and_parts (is_good vars found symbols u.0) (not (is_among vars u.0) || nat_eq u.1 0) r.0 in
    ap₂ (λ b o. cond b (Some u.1) o) (symbol_test vars found symbols x u.0 few g.0 s v) (arity_part vars found symbols x us vs ws few r.1 s v e)

pub arities_again : (vars symbols : List Name) (uses : List (Name × ℕ)) (x : Name) (es : List WrittenEquation) → AreGoodEquations vars symbols uses es → is_among symbols x ≡ true → is_among vars x ≡ false → arity_in (all_uses (rewritten vars symbols es)) x ≡ arity_in (all_uses es) x
arities_again vars symbols uses x [] g s v = refl
arities_again vars symbols uses x (e ∷ es) g s v =
    let found = equation_variables vars e in
    let rest' = all_uses (rewritten vars symbols es) in
    ap (λ us. arity_in us x) (ap₂ (λ l r. l ++ (r ++ rest')) (uses_again vars found symbols uses e.left g.0.left) (uses_again vars found symbols uses e.right g.0.right))
    ∙ arity_part vars found symbols x (uses_in e.left) (map (renamed_use symbols found) (uses_in e.right) ++ rest') (uses_in e.right ++ all_uses es) g.0.few (fine_uses vars found symbols uses e.left g.0.left) s v
    (arity_part vars found symbols x (uses_in e.right) rest' (all_uses es) g.0.few (fine_uses vars found symbols uses e.right g.0.right) s v (arities_again vars symbols uses x es g.1 s v))

-- a variable has no arguments in the text that is written
no_arity : (vars found symbols : List Name) (k : ℕ) (us vs : List (Name × ℕ)) → k < 64 → list_all (is_fine vars found symbols) us ≡ true → unwrap_or (arity_in vs (variable_text symbols k)) 0 ≡ 0 → unwrap_or (arity_in (map (renamed_use symbols found) us ++ vs) (variable_text symbols k)) 0 ≡ 0
no_arity vars found symbols k [] vs l f e = e
no_arity vars found symbols k (u ∷ us) vs l f e =
    let r = and_parts (is_fine vars found symbols u) (list_all (is_fine vars found symbols) us) f in
    go (no_arity vars found symbols k us vs l r.1 e) (and_parts (is_good vars found symbols u.0) (not (is_among vars u.0) || nat_eq u.1 0) r.0) (bytes_eq (variable_text symbols k) (renamed symbols found u.0)) refl
  where
    count : (is_good vars found symbols u.0 ≡ true) × ((not (is_among vars u.0) || nat_eq u.1 0) ≡ true) → (b : Bool) → is_among found u.0 ≡ b → variable_text symbols k ≡ cond b (variable_text symbols (number_of found u.0)) u.0 → u.1 ≡ 0
    count g true h q = eqb-true u.1 0 (sym (ap (λ v. not v || nat_eq u.1 0) (good_variable vars found symbols u.0 g.0 h)) ∙ g.1)
    count g false h q =
        let s = good_symbol vars found symbols u.0 g.0 h in
        absurd (false≢true (sym (no_symbol_is_variable symbols u.0 k s.symbol l) ∙ ap (bytes_eq u.0) q ∙ same_name u.0))

    go : unwrap_or (arity_in (map (renamed_use symbols found) us ++ vs) (variable_text symbols k)) 0 ≡ 0 → (is_good vars found symbols u.0 ≡ true) × ((not (is_among vars u.0) || nat_eq u.1 0) ≡ true) → (b : Bool) → bytes_eq (variable_text symbols k) (renamed symbols found u.0) ≡ b
        → unwrap_or (cond (bytes_eq (variable_text symbols k) (renamed symbols found u.0)) (Some u.1) (arity_in (map (renamed_use symbols found) us ++ vs) (variable_text symbols k))) 0 ≡ 0
    go next g true q = ap (λ b. unwrap_or (cond b (Some u.1) (arity_in (map (renamed_use symbols found) us ++ vs) (variable_text symbols k))) 0) q ∙ count g (is_among found u.0) refl (same_bytes (variable_text symbols k) (renamed symbols found u.0) q)
    go next g false q = ap (λ b. unwrap_or (cond b (Some u.1) (arity_in (map (renamed_use symbols found) us ++ vs) (variable_text symbols k))) 0) q ∙ next

pub no_arities : (vars symbols : List Name) (uses : List (Name × ℕ)) (k : ℕ) (es : List WrittenEquation) → k < 64 → AreGoodEquations vars symbols uses es → unwrap_or (arity_in (all_uses (rewritten vars symbols es)) (variable_text symbols k)) 0 ≡ 0
no_arities vars symbols uses k [] l g = refl
no_arities vars symbols uses k (e ∷ es) l g =
    let found = equation_variables vars e in
    let rest' = all_uses (rewritten vars symbols es) in
    ap (λ us. unwrap_or (arity_in us (variable_text symbols k)) 0) (ap₂ (λ l r. l ++ (r ++ rest')) (uses_again vars found symbols uses e.left g.0.left) (uses_again vars found symbols uses e.right g.0.right))
    ∙ no_arity vars found symbols k (uses_in e.left) (map (renamed_use symbols found) (uses_in e.right) ++ rest') l (fine_uses vars found symbols uses e.left g.0.left)
    (no_arity vars found symbols k (uses_in e.right) rest' l (fine_uses vars found symbols uses e.right g.0.right) (no_arities vars symbols uses k es l g.1))

-- uses that agree, by what is known of the arities
pub record SameArities (symbols : List Name) (uses again : List (Name × ℕ)) : Type 0 where
  pub symbol : (x : Name) → is_among symbols x ≡ true → arity_in again x ≡ arity_in uses x
  pub variable : (k : ℕ) → k < 64 → unwrap_or (arity_in again (variable_text symbols k)) 0 ≡ 0

agree_part : (vars found symbols : List Name) (uses again us : List (Name × ℕ)) → length found ≤ 64 → SameArities symbols uses again → list_all (is_fine vars found symbols) us ≡ true → list_all (agrees uses) us ≡ true → list_all (agrees again) (map (renamed_use symbols found) us) ≡ true
agree_part vars found symbols uses again [] few s f a = refl
agree_part vars found symbols uses again (u ∷ us) few s f a =
    let r = and_parts (is_fine vars found symbols u) (list_all (is_fine vars found symbols) us) f in
    let q = and_parts (agrees uses u) (list_all (agrees uses) us) a in
    ap₂ ◌&&◌ (go (and_parts (is_good vars found symbols u.0) (not (is_among vars u.0) || nat_eq u.1 0) r.0) q.0 (is_among found u.0) refl) (agree_part vars found symbols uses again us few s r.1 q.1)
  where
    go : (is_good vars found symbols u.0 ≡ true) × ((not (is_among vars u.0) || nat_eq u.1 0) ≡ true) → agrees uses u ≡ true → (b : Bool) → is_among found u.0 ≡ b → nat_eq u.1 (unwrap_or (arity_in again (cond (is_among found u.0) (variable_text symbols (number_of found u.0)) u.0)) 0) ≡ true
    go g h true e =
        let l = number_within found u.0 e in
        ap (λ b. nat_eq u.1 (unwrap_or (arity_in again (cond b (variable_text symbols (number_of found u.0)) u.0)) 0)) e
        ∙ ap (nat_eq u.1) (s.variable (number_of found u.0) (omega arith))
        ∙ sym (ap (λ v. not v || nat_eq u.1 0) (good_variable vars found symbols u.0 g.0 e)) ∙ g.1
    go g h false e =
        let k = good_symbol vars found symbols u.0 g.0 e in
        ap (λ b. nat_eq u.1 (unwrap_or (arity_in again (cond b (variable_text symbols (number_of found u.0)) u.0)) 0)) e ∙ ap (λ o. nat_eq u.1 (unwrap_or o 0)) (s.symbol u.0 k.symbol) ∙ h

pub agree_again : (vars symbols : List Name) (uses again : List (Name × ℕ)) (es : List WrittenEquation) → SameArities symbols uses again → AreGoodEquations vars symbols uses es → list_all (agrees again) (all_uses (rewritten vars symbols es)) ≡ true
agree_again vars symbols uses again [] s g = refl
agree_again vars symbols uses again (e ∷ es) s g =
    let found = equation_variables vars e in
    let rest' = all_uses (rewritten vars symbols es) in
    ap (list_all (agrees again)) (ap₂ (λ l r. l ++ (r ++ rest')) (uses_again vars found symbols uses e.left g.0.left) (uses_again vars found symbols uses e.right g.0.right))
    ∙ all_join (agrees again) (map (renamed_use symbols found) (uses_in e.left)) (map (renamed_use symbols found) (uses_in e.right) ++ rest') (agree_part vars found symbols uses again (uses_in e.left) g.0.few s (fine_uses vars found symbols uses e.left g.0.left) g.0.left.uses_agree)
    (all_join (agrees again) (map (renamed_use symbols found) (uses_in e.right)) rest' (agree_part vars found symbols uses again (uses_in e.right) g.0.few s (fine_uses vars found symbols uses e.right g.0.right) g.0.right.uses_agree) (agree_again vars symbols uses again es s g.1))

few_part : (symbols found : List Name) (us : List (Name × ℕ)) → list_all (λ (u : Name × ℕ). nat_le u.1 8) (map (renamed_use symbols found) us) ≡ list_all (λ (u : Name × ℕ). nat_le u.1 8) us
few_part symbols found [] = refl
few_part symbols found (u ∷ us) = ap (nat_le u.1 8 &&◌) (few_part symbols found us)

pub few_again : (vars symbols : List Name) (uses : List (Name × ℕ)) (es : List WrittenEquation) → AreGoodEquations vars symbols uses es → list_all (λ (u : Name × ℕ). nat_le u.1 8) (all_uses es) ≡ true → list_all (λ (u : Name × ℕ). nat_le u.1 8) (all_uses (rewritten vars symbols es)) ≡ true
few_again vars symbols uses [] g h = refl
few_again vars symbols uses (e ∷ es) g h =
    let found = equation_variables vars e in
    let p = λ (u : Name × ℕ). nat_le u.1 8 in
    let rest' = all_uses (rewritten vars symbols es) in
    let a = all_split p (uses_in e.left) (uses_in e.right ++ all_uses es) h in
    let b = all_split p (uses_in e.right) (all_uses es) a.1 in
    ap (list_all p) (ap₂ (λ l r. l ++ (r ++ rest')) (uses_again vars found symbols uses e.left g.0.left) (uses_again vars found symbols uses e.right g.0.right))
    ∙ all_join p (map (renamed_use symbols found) (uses_in e.left)) (map (renamed_use symbols found) (uses_in e.right) ++ rest') (few_part symbols found (uses_in e.left) ∙ a.0)
    (all_join p (map (renamed_use symbols found) (uses_in e.right)) rest' (few_part symbols found (uses_in e.right) ∙ b.0) (few_again vars symbols uses es g.1 b.1))

-- ---- names are short

short_part : (vars found symbols ns : List Name) → length found ≤ 64 → ((k : ℕ) → k < 64 → nat_le (length (variable_text symbols k)) 64 ≡ true) → ((x : Name) → is_among symbols x ≡ true → nat_le (length x) 64 ≡ true) → list_all (is_good vars found symbols) ns ≡ true
    → list_all (λ (x : Name). nat_le (length x) 64) (map (renamed symbols found) ns) ≡ true
short_part vars found symbols [] few v s g = refl
short_part vars found symbols (n ∷ ns) few v s g =
    let r = and_parts (is_good vars found symbols n) (list_all (is_good vars found symbols) ns) g in
    ap₂ ◌&&◌ (go r.0 (is_among found n) refl) (short_part vars found symbols ns few v s r.1)
  where
    go : is_good vars found symbols n ≡ true → (b : Bool) → is_among found n ≡ b → nat_le (length (cond (is_among found n) (variable_text symbols (number_of found n)) n)) 64 ≡ true
    go g true e = let l = number_within found n e in ap (λ b. nat_le (length (cond b (variable_text symbols (number_of found n)) n)) 64) e ∙ v (number_of found n) (omega arith)
    go g false e = ap (λ b. nat_le (length (cond b (variable_text symbols (number_of found n)) n)) 64) e ∙ s n (good_symbol vars found symbols n g e).symbol

pub short_again : (vars symbols : List Name) (uses : List (Name × ℕ)) (es : List WrittenEquation) → ((k : ℕ) → k < 64 → nat_le (length (variable_text symbols k)) 64 ≡ true) → ((x : Name) → is_among symbols x ≡ true → nat_le (length x) 64 ≡ true) → AreGoodEquations vars symbols uses es
    → list_all (λ (x : Name). nat_le (length x) 64) (all_names (rewritten vars symbols es)) ≡ true
short_again vars symbols uses [] v s g = refl
short_again vars symbols uses (e ∷ es) v s g =
    let found = equation_variables vars e in
    let p = λ (x : Name). nat_le (length x) 64 in
    let rest' = all_names (rewritten vars symbols es) in
    ap (list_all p) (ap₂ (λ l r. l ++ (r ++ rest')) (names_again vars found symbols uses e.left g.0.left) (names_again vars found symbols uses e.right g.0.right))
    ∙ all_join p (map (renamed symbols found) (names_in e.left)) (map (renamed symbols found) (names_in e.right) ++ rest') (short_part vars found symbols (names_in e.left) g.0.few v s g.0.left.names)
    (all_join p (map (renamed symbols found) (names_in e.right)) rest' (short_part vars found symbols (names_in e.right) g.0.few v s g.0.right.names) (short_again vars symbols uses es v s g.1))

-- ---- the terms

pub bounded_equations : (vars symbols : List Name) (uses : List (Name × ℕ)) (es : List WrittenEquation) → AreGoodEquations vars symbols uses es → (k : ℕ) (d : Tree × Tree) → k < length (map (equation_of vars symbols) es) → IsBoundedEquation (map (entry_of uses) symbols) (get_or (map (equation_of vars symbols) es) k d)
bounded_equations vars symbols uses [] g k d l = absurd (omega arith)
bounded_equations vars symbols uses (e ∷ es) g zero d l =
    let found = equation_variables vars e in
    (term_bounded vars found symbols uses e.left 64 g.0.left g.0.few g.0.left_depth, term_bounded vars found symbols uses e.right 64 g.0.right g.0.few g.0.right_depth)
bounded_equations vars symbols uses (e ∷ es) g (suc k) d l = bounded_equations vars symbols uses es g.1 k d (omega arith)

pub entries_again : (symbols : List Name) (uses again : List (Name × ℕ)) (ys : List Name) → SameArities symbols uses again → list_all (is_among symbols) ys ≡ true → map (entry_of again) ys ≡ map (entry_of uses) ys
entries_again symbols uses again [] s g = refl
entries_again symbols uses again (y ∷ ys) s g =
    let r = and_parts (is_among symbols y) (list_all (is_among symbols) ys) g in
    let one : entry_of again y ≡ entry_of uses y = ap (λ (o : Option ℕ). let n = unwrap_or o 0 in record { name = y; arity = n }) (s.symbol y r.0) in
    ap₂ (λ z zs. z ∷ zs) one (entries_again symbols uses again ys s r.1)
